-- Lemmas on keys and amounts, on lists of pairs, on sorted maps, on sums and on when a state is afresh; and on the views
-- of an index.
pub mod AfreshLemmas
pub mod MapLemmas
pub mod MemberLemmas
pub mod PairLemmas
pub mod StateLemmas
pub mod SumLemmas
pub mod ViewLemmas
pub mod StandingLemmas
pub mod QueueLemmas
