pub mod Exact
pub mod Covered
pub mod Said
pub mod Consolidated
pub mod Written
pub mod Joined
pub mod Read
