pub mod Items
pub mod Packages
pub use Rattle.unit_walk
pub use Rattle.unit_walk.specs.specifications
