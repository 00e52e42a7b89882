-- What it is that rows are loaded into an index.
pub mod Loaded
pub mod Loading
