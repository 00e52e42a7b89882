-- What the contracts of this crate cite.
pub mod Place
pub mod Classes
pub mod Laws
