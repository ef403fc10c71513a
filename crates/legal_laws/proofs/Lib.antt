pub mod Passing
pub mod Demands
pub mod Values
pub mod AlikeTypes
pub mod KnownTypes
pub mod KnownBounds
mod KnownNames
pub mod KnownExpressions
pub mod KeptExpressions
pub mod KeptStatics
pub mod Constants
pub mod KnownStatics
mod KnownValues
pub mod Wider
pub mod Lengths
pub mod KnownRegions
pub mod Identities
pub mod DefinedTypes
pub mod KnownObjects
pub mod KnownDeclarations
pub mod Leading
pub mod LeadingStatements
mod KnownCalls
mod KnownStatements
pub mod Giving
pub mod NumberedObjects
mod TypedObjects
pub mod KnownBodies
pub mod KnownSpecifications
pub mod SpecifiedBodies
pub mod SeenEntities
pub mod OwnRoutines
pub mod UnitBodies
mod Laws
pub mod Predefined
pub mod ScopedValues
pub mod LibraryDeclarations
pub mod ListedPrograms
mod TooManyLiterals
pub mod DistinctObjects
