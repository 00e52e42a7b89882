-- Lemmas on the nodes under their numbers, and on the retired ones among them.
pub mod NodeLemmas
pub mod ArenaLemmas
