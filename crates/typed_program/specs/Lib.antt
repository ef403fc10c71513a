pub mod Exceptions
pub mod Instances
pub mod Assembled
pub mod Entries
pub mod TypeTexts
pub use Rattle.program_walk
