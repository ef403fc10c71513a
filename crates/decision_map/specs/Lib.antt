pub mod Kinds
pub mod Decisions
pub mod Roles
pub mod Blocks
pub mod Fits
pub mod Mapped
pub mod Seen
