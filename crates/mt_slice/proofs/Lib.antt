-- Lemmas of places, for this crate and for those above it.
pub mod Slices
pub mod PlaceOn
pub mod PlaceOrder
pub mod KeyOrder
pub mod Canonical
pub mod ClassNumbers
