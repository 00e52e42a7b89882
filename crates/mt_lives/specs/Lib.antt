-- The lives of a map whose rows are in a folder.
pub mod Turns
pub mod Lives
pub mod Sentence
