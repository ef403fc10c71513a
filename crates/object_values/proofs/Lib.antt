pub mod ValueLaws
pub mod Knowing
pub mod ValueFor
pub mod NewValueLaws
pub mod PlaceLaws
