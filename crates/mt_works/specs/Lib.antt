-- What the contracts cite, in the order in which a reader takes it: what a build reads, builds as calls, and then all
-- kinds of calls.
pub mod History
pub mod Build
pub mod BuildCode
pub mod BuildFields
pub mod Laws
pub mod Building
pub mod Works
pub mod Causes
pub mod Follows
