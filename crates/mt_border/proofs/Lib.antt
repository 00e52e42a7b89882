-- Lemmas of this crate.
pub mod TableLemmas
pub mod ArrangedLemmas
pub mod SlotLemmas
pub mod FindLemmas
pub mod BorderLemmas
pub mod SeenLemmas
pub mod CutLemmas
pub mod ShowLemmas
pub mod SplitLemmas
pub mod FieldLemmas
pub mod ChangeLemmas
