pub mod Command
pub mod Examples
pub mod Gives
pub mod Lines
pub mod Task
