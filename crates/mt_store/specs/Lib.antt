-- A map whose commits are in a log: what a change leaves, what a crash leaves of it, and which error comes when.
pub mod Extending
pub mod Changing
pub mod Stored
pub mod Causes
pub mod Again
