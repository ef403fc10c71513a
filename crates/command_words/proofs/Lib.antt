pub mod ExampleLaws
pub mod FoundLaws
pub mod SourceLaws
