pub mod Steps
pub mod Runs
pub mod Words
pub mod Fair
pub mod Placed
pub mod Agreed
