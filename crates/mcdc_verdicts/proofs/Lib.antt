pub mod Marking
pub mod Ordering
pub mod Lists
pub mod Causing
pub mod Searching
pub mod Lowest
pub mod Taking
