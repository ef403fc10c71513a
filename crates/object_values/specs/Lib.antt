pub mod Values
pub mod Reached
pub mod Places
pub mod NewValues
pub use Rattle.program_walk
