-- Batches over a machine.
pub mod Changes
pub mod Making
pub mod Batch
