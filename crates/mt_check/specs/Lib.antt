-- When an audit says that all is right: what a reader must believe.
pub mod Receipts
pub mod Faults
pub mod Worth
-- after these: what the code computes
pub mod Versions
pub mod Ranges
pub mod Judging
