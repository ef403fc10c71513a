pub mod TypeDeclarations
pub mod TypeStatements
pub mod TypeBodies
pub mod TypeUnits
pub mod TypePrograms
