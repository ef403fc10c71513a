pub mod Parsed
pub mod Places
pub use Rattle.legal_counts
pub use Rattle.legal_texts
pub use Rattle.legal_texts.specs.legal_instances
pub use Rattle.legal_names
