pub mod Numbers
pub mod Opening
