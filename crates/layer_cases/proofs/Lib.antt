pub mod Spelling
pub mod Ordered
