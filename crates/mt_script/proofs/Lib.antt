mod Examples
pub mod BaseLemmas
pub mod FinishLemmas
pub mod JoinLemmas
pub mod LineLemmas
pub mod PlayLemmas
pub mod WordLemmas
