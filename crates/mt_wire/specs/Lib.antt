-- What the contracts cite, in the order in which a reader takes it. Reading and Bodies are for private calls.
pub mod Versions
pub mod ServerNumbers
pub mod Spelling
pub mod Fits
pub mod Limited
pub mod Answered
pub mod FaultNumbers
pub mod Frames
pub mod Reading
pub mod ServerReading
pub mod ReadReading
pub mod QueryReading
pub mod Bodies
pub mod KeptFields
pub mod Laws
