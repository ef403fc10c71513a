pub mod Copying
pub mod Meaning
pub mod Growing
pub mod Weighing
pub mod Exceptions
