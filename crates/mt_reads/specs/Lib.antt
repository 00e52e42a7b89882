-- What the contracts of this crate cite.
pub mod Back
pub mod Counts
pub mod Quiet
pub mod Ranges
pub mod Reading
pub mod Walks
