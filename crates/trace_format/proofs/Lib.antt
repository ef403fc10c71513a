pub mod StreamLaws
pub mod WatchLaws
pub mod PlacesLaws
pub mod ReaderLaws
pub mod HeadLaws
pub mod TraceLaws
pub mod PassingLaws
pub mod ConsolidatedLaws
