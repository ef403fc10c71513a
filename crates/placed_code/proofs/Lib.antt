pub mod CodeLaws
pub mod ReachLaws
pub mod StretchLaws
pub mod Steps
pub mod Calls
pub mod Loops
pub mod Straights
mod Examples
