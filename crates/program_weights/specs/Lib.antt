pub mod TypeWeights
pub mod Entries
pub mod BodyTexts
pub mod BodyEntries
pub mod Wholes
