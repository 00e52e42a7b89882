-- What the command line means, what is cut, and how the program ends.
pub mod CommandLine
pub mod Cuts
pub mod Statuses
