pub mod MovingLemmas
mod RoleLemmas
pub mod ChangeLemmas
pub mod OpenedLemmas
pub mod MadeLemmas
