-- What the contracts of this crate cite.
pub mod Seen
pub mod Fields
pub mod OneField
pub mod Keeping
pub mod NewTree
pub mod Spares
pub mod Descent
pub mod BorderSteps
pub mod InteriorSteps
pub mod HeadSteps
