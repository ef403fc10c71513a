pub mod Placed
pub mod Reach
pub mod Laws
pub mod Marks
