pub mod Machine
pub mod Objects
