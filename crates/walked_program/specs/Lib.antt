pub mod Checking
pub mod Judging
pub mod Ending
pub use Rattle.ada_demands
