pub mod WayLaws
pub mod GoesOnLaws
pub mod ListLaws
pub mod GroupingLaws
pub mod ExampleLaws
