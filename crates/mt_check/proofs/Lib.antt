-- Lemmas on the versions of keys, and on a log that is read.
pub mod CallLemmas
pub mod CheckLemmas
pub mod CommitLemmas
pub mod EntryLemmas
pub mod JudgeLemmas
pub mod LogLemmas
pub mod MapLemmas
pub mod PageLemmas
pub mod RangeLemmas
pub mod VersionLemmas
pub mod WalkLemmas
pub mod WorthLemmas
pub mod BlameLemmas
pub mod WriteLemmas
