pub mod Frames
pub mod Initial
pub mod Layouts
pub mod Library
