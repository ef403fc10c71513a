pub mod Within
pub mod Chains
pub mod Unfolding
