pub mod EntryLemmas
pub mod FollowLemmas
pub mod NumberedLemmas
pub mod ReadingLemmas
pub mod RedoLemmas
pub mod ReplayLemmas
pub mod SettledLemmas
