pub mod Sizes
pub mod Repeated
pub mod Instances
