-- Lemmas on what a build reads, by rows, by the tree, and of the keys of a view; then on the calls.
pub mod HistoryLemmas
pub mod PrefixLemmas
pub mod ReadLemmas
pub mod BuildingLemmas
pub mod BuildSteps
pub mod WorkLemmas
pub mod NewWorks
pub mod LoneBuild
pub mod LoneGet
pub mod LoneKinds
pub mod LoneWork
