pub mod Unmasked
pub mod Pair
pub mod Verdict
pub mod Turn
