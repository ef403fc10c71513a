pub mod Seen
pub mod Laws
pub mod Verdicts
pub mod Examples
