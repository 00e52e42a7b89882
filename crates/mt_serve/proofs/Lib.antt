pub mod SourceLemmas
pub mod ServingLemmas
pub mod CauseLemmas
pub mod AloneEvents
pub mod AloneLemmas
pub mod AloneEnds
pub mod ReadLemmas
pub mod AloneTurns
pub mod PlainLemmas
mod StageLemmas
mod CallLemmas
mod QuietLemmas
mod RangeOnce
mod AmpleLemmas
mod NewestLemmas
mod OnlyLemmas
mod ReaderLemmas
mod KeepLemmas
mod ReaderAloneLemmas
