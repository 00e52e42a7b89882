-- The lemmas of this crate.
pub mod MapLemmas
pub mod TidyLemmas
pub mod BoundLemmas
pub mod BatchLemmas
