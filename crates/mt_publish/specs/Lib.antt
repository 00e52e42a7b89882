-- What is published, what a thread knows of it, and what a publisher, a reader and a told carry.
pub mod Marks
pub mod Book
pub mod Folds
pub mod Shown
pub mod Rule
pub mod Carried
pub mod Follows
