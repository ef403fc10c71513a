pub mod Feeds
pub mod Same
pub mod Telling
pub mod Rounds
pub mod Alike
mod Examples
