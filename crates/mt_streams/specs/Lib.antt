pub mod Readers
pub mod Sinks
