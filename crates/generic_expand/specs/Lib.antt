pub mod Expanded
pub mod Copying
pub mod Limits
