mod Examples
pub mod Shapes
pub mod Turns
pub mod Pairs
pub mod Symmetry
pub mod Choices
pub mod AllEdges
