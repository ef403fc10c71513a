pub mod Loop
pub mod LayersLaws
pub mod EntryLists
pub mod Failing
pub mod Passing
