pub mod Known
pub mod Library
pub mod Signs
pub mod Sizes
pub mod Table
pub mod Forms
pub mod Built
