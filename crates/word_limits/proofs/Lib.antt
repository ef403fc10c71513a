pub mod CapLaws
pub mod RowLaws
pub mod UnitLaws
