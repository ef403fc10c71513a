pub mod Turns
pub mod Spellings
mod Examples
pub mod Places
