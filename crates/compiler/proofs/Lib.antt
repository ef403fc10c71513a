pub mod Checked
pub mod Typed
