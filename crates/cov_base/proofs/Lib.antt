pub mod Walks
pub mod Edges
pub mod Bits
pub mod Follows
pub mod Reached
pub mod Postfix
pub mod Drops
