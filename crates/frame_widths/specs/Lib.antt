pub mod Ends
pub mod Chains
