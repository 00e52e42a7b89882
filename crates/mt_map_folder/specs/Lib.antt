-- A map whose commits and rows are written to a log.
pub mod Written
pub mod Read
pub mod Rounds
pub mod Changes
pub mod Promises
