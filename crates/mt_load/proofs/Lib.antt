pub mod RunLemmas
pub mod LoadLemmas
