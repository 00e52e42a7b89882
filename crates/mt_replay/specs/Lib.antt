-- The commits of a log's records, made again; what a log says of rows, done again; and which of its entries count.
pub mod Replay
pub mod Redo
pub mod RedoLaws
pub mod Reading
