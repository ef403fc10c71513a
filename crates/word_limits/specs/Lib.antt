pub mod Capped
pub mod Counting
pub mod Excess
pub mod Places
pub mod Ranges
pub mod Rows
