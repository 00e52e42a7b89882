-- What the contracts of this crate cite.
pub mod Batches
pub mod Bounded
pub mod Calls
pub mod Tidies
pub mod Views
