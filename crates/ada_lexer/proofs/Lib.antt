pub mod Tables
pub mod Numerals
pub mod Places
pub mod Cutting
pub mod Delimiters
mod Examples
pub mod AsciiTexts
