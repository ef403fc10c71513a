pub mod Labels
pub mod Codes
pub mod Stands
mod Examples
