pub mod Entries
pub mod Kept
pub mod Rebuilt
pub mod Flagged
