pub mod UnitTexts
pub mod Leading
pub mod Numbers
pub mod Marked
pub mod Told
pub mod Worked
pub use Rattle.legal_instances
