pub mod Format
pub mod Laws
pub mod Layers
pub mod Outcome
pub mod Entries
pub mod Fixed
pub mod Checks
