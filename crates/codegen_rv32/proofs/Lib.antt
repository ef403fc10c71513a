pub mod Nodes
pub mod Behind
pub mod Sizes
