pub mod Lines
pub mod Numbers
pub mod Traced
pub mod Turning
