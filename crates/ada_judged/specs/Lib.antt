pub mod Views
pub mod StaticView
pub mod StaticSize
pub mod JudgedView
pub mod PartViews
pub mod Both
pub use Rattle.ada_entities
