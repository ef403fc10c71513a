pub mod TypeTokens
pub mod TextGenerics
pub mod Weights
pub use Rattle.legal_instances
