-- What the contracts cite: what is true of a posting at each of its stages, the law of its step, why it waits or ends,
-- and how much of it is left.
pub mod Posting
pub mod Causes
pub mod Follows
pub mod Ending
pub mod Alone
