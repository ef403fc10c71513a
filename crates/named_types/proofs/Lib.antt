pub mod NamedLaws
pub mod Beginnings
pub mod Instances
