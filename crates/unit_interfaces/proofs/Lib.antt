pub mod GoingLaws
pub mod ItemLaws
pub mod PackageLaws
pub mod InterfaceLaws
