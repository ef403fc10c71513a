pub mod Runs
mod Vectors
