pub mod Marks
pub mod Recorded
pub mod Written
