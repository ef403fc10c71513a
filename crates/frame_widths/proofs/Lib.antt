pub mod Above
mod Counted
mod Behind
mod Chains
mod Kept
