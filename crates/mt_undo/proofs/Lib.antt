-- Lemmas on what is taken back.
pub mod TakingLemmas
pub mod UndoLemmas
pub mod RemoveLemmas
