pub mod WrittenLemmas
mod CleanLemmas
mod RoundLemmas
pub mod ChangeLemmas
mod OpenLemmas
