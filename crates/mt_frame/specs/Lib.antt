-- Frames of a log: their bytes, and what is at the front of bytes.
pub mod Digest
pub mod Spelling
pub mod Fits
pub mod Ends
pub mod Laws
-- Contracts of private calls speak of these.
pub mod Reading
pub mod Faults
