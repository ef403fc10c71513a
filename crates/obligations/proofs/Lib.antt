pub mod Chains
pub mod Lists
pub mod Spelling
pub mod Sizes
pub mod Sorting
pub mod Places
pub mod Whole
pub mod Growing
