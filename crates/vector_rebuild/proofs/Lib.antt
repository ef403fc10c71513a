pub mod Keys
pub mod Known
pub mod Fed
pub mod LeafEdges
