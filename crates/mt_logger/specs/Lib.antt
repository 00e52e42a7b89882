-- The commits of a shared index in a log: what is written of them, what a checkpoint does, and which changes the folder keeps.
pub mod Writing
pub mod Following
pub mod Reading
pub mod Rounds
