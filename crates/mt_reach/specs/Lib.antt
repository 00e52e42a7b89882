-- Which rows and numbers of commits some legal history leads to.
pub mod Reach
