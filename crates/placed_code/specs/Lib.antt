pub mod Code
pub mod Reach
pub mod Stretch
pub mod Laws
pub mod Instructions
pub mod Straight
