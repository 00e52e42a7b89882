-- The state of a view, and the views of an index, as their contracts see them.
pub mod Laws
pub mod State
pub mod StateCode
pub mod StateFields
pub mod Views
pub mod ViewsFields
