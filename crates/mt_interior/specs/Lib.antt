-- What the contracts of this crate cite.
pub mod Head
pub mod Interior
