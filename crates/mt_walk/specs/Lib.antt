-- What the contracts of this crate cite.
pub mod Descent
pub mod Emptied
pub mod Gathered
pub mod Removes
pub mod Standing
pub mod Start
pub mod Steps
pub mod Walk
