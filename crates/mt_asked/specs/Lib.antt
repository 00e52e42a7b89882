-- What the contracts of this crate cite.
pub mod Borrowed
pub mod Bounds
