-- Lemmas on the columns of a row, on ranges, on the numbers of refusals and tidies, and on sorted maps.
pub mod PackedLemmas
pub mod RangeLemmas
pub mod NumberLaws
pub mod MapLemmas
