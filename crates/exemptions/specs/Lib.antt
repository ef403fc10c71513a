pub mod Marks
pub mod Regions
pub mod Open
pub mod Table
