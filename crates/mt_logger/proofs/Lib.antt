pub mod WriteLemmas
mod FollowLemmas
mod StepLemmas
