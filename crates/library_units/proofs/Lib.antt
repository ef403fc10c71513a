pub mod Grown
pub mod EndLaws
pub mod InsideLaws
pub mod LibraryLaws
pub mod BodyLaws
pub mod UnitBodyLaws
