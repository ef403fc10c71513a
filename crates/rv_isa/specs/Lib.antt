pub mod Immediates
pub mod Words
pub mod Rows
pub mod Decoding
pub mod Control
