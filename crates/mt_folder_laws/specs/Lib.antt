-- What a crash leaves of a folder, and what is read of it.
pub mod Copied
pub mod Crashes
pub mod Grown
pub mod Left
