pub mod CheckedLaws
pub mod WeightLaws
pub mod LimitLaws
pub mod Tables
pub mod EndLaws
