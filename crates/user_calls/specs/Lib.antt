pub mod Calls
pub mod Use
pub mod GoesOn
pub mod Grouping
pub mod Example
