-- The rows of logs without a seal, and those of the files of a folder.
pub mod FolderLemmas
pub mod SourceLemmas
mod HeaderLemmas
mod EndLemmas
mod LookLemmas
