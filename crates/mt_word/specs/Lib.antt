-- What the contracts of this crate cite.
pub mod Fields
pub mod Slots
pub mod Round
pub mod Version
pub mod VersionRound
