-- What a crash leaves of a folder.
pub mod FrontLemmas
pub mod CopiedLemmas
pub mod PartLemmas
pub mod GrownLemmas
pub mod SourceLemmas
pub mod AlikeLemmas
pub mod CrashLemmas
