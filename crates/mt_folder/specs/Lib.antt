-- What the logs of a folder say, which of them have its rows, and which rows.
pub mod Logs
pub mod Files
pub mod Sides
pub mod Laws
pub mod Spares
pub mod Kept
pub mod Looking
