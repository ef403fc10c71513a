pub mod Distinct
pub mod Objects
pub mod Caller
pub mod Text
pub mod Pairs
