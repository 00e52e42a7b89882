-- Lemmas of this crate.
pub mod ShiftLemmas
pub mod FieldsLemmas
pub mod WordOfLemmas
pub mod PlacesLemmas
pub mod SeenLemmas
pub mod VersionLemmas
pub mod ArrangedLemmas
