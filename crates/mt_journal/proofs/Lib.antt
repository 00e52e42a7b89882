-- Logs as lists of frames.
pub mod Frames
-- What a write leaves of a list of bytes.
mod Writes
-- What a crash leaves of a log, and the steps of a journal.
mod Torn
pub mod Kept
-- Recovery.
mod Reading
mod Repairs
-- Errors and their causes.
mod HeaderFits
mod Caused
mod Refused
