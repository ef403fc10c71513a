pub mod Inputs
pub mod Source
