-- What the contracts cite: the world and the law of a step first, then each kind of call.
pub mod OneNode
pub mod World
pub mod Step
pub mod Way
pub mod Standing
pub mod Reader
pub mod Causes
pub mod Finding
pub mod Entering
pub mod Getting
pub mod Listing
pub mod Ranging
pub mod Collecting
pub mod Lone
