-- The lemmas of this crate.
mod Advance
mod DescentLemmas
mod Found
pub mod Gathering
mod Layers
mod Moves
mod Places
mod Ranges
mod Spelled
mod StartLemmas
mod Starts
mod Visits
mod WalkLemmas
