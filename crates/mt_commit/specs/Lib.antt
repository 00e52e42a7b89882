-- The log of commits as its contracts see it, and what its deltas say of rows.
pub mod Deltas
pub mod Holders
pub mod Laws
pub mod Log
pub mod LogFields
pub mod Logged
