-- The lemmas of this crate.
pub mod BackLemmas
pub mod CountLemmas
pub mod LimitedReads
pub mod KeysToCome
pub mod QuietOnce
pub mod RangeBackLemmas
pub mod Ranges
pub mod WalkLemmas
