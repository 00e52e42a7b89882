-- What a log says, and what a crash leaves of one.
pub mod Log
pub mod Keeping
pub mod Appending
pub mod Causes
pub mod Refusing
pub mod Laws
-- Contracts of private calls speak of these.
pub mod Growing
pub mod Recovery
