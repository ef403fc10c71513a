mod Words
mod Declared
mod Stated
mod Bodies
mod Units
pub mod Programs
