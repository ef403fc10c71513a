pub mod ConditionPlaces
pub mod Choices
pub mod Within
pub mod ObjectWords
pub mod LibraryWords
pub mod Generics
pub mod TextParts
pub mod Seen
