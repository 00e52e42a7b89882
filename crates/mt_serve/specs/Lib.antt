-- What the contracts cite, in the order in which a reader takes it.
pub mod Faults
pub mod Asking
pub mod Sources
pub mod Sessions
pub mod Store
pub mod Plain
pub mod Ample
pub mod Reading
