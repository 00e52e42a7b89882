-- What the proofs share.
pub mod Lists
pub mod Adding
pub mod Kept
pub mod Pages
pub mod Handed
