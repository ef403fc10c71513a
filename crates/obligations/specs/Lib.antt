pub mod Entries
pub mod Operands
pub mod Ordered
pub mod Exceptions
pub mod Spelled
