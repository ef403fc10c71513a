pub mod Words
pub mod Inside
pub mod Library
