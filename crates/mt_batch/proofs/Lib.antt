-- Lemmas on batches.
pub mod RunLemmas
pub mod MakingLemmas
pub mod ChangeLemmas
pub mod RefusalLemmas
pub mod CallLemmas
