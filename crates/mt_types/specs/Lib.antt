-- What the contracts cite, in the order in which a reader takes it.
pub mod Keys
pub mod Rows
pub mod Block
pub mod Packed
pub mod Ranges
pub mod Views
pub mod Limits
pub mod Limited
pub mod Numbers
pub mod RefusalNumbers
pub mod TidyNumbers
pub mod Copies
