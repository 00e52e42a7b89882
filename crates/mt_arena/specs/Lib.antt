-- What the contracts of this crate cite.
pub mod Node
pub mod Arena
pub mod Lends
pub mod Parts
