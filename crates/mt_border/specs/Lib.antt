-- What the contracts of this crate cite.
pub mod Entry
pub mod Table
pub mod Border
pub mod Order
pub mod Find
pub mod Cut
pub mod Slots
pub mod Parts
pub mod Keys
