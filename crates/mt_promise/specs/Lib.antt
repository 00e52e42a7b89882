-- The promise, in the order in which a reader takes it.
pub mod History
pub mod RightAnswers
pub mod Legal
pub mod Headline
pub mod Finished
pub mod Limited
pub mod Alone
pub mod Examples
-- after these: what equality in code says
pub mod ExactLists
pub mod ExactValues
