-- How changes are taken back, and rows removed at once.
pub mod Removing
pub mod Reserving
pub mod Taking
pub mod Undoing
