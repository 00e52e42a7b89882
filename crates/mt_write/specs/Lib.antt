-- What the contracts of puts and removes cite.
pub mod Held
pub mod Splitting
pub mod Writing
pub mod Ready
pub mod Causes
pub mod Follows
pub mod Runs
pub mod Uncut
