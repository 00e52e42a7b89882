-- What the contracts cite: what a tidy notes, how it reads, the signs of its rules, what is true of it at each stage, and
-- what follows which.
pub mod Noted
pub mod Reading
pub mod Seen
pub mod Above
pub mod Known
pub mod Locked
pub mod Tidy
pub mod Follows
