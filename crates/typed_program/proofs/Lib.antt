pub mod Orders
pub mod Listing
pub mod Valued
pub mod Assembling
pub mod EntryLaws
pub mod BodyLaws
pub mod TextLaws
