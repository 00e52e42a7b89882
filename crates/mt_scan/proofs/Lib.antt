-- Lemmas of scans, for this crate and for those above it.
pub mod CursorLemmas
pub mod StepLemmas
pub mod PairLemmas
pub mod TakenLemmas
pub mod VisitLemmas
pub mod OnwardLemmas
pub mod LeadLemmas
