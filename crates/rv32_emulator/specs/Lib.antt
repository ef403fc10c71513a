pub mod InputFile
pub mod Ran
