pub mod Weights
