-- The log of a folder that is in use: what is done next for its checkpoint.
pub mod Moving
pub mod Folder
pub mod Made
