pub mod Told
pub mod Text
pub mod Table
pub mod Obliged
pub mod Listing
