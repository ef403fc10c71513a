pub mod Lists
pub mod Adding
pub mod AddingStatements
pub mod Extending
pub mod ExtendingUnits
pub mod Passed
pub mod Limited
pub mod Serving
pub mod Finals
pub mod Headings
pub mod Counted
mod LabelledStatements
mod MadeBodies
pub mod MadeUnits
mod QuietInterfaces
pub mod MainUnit
pub mod Worlds
pub mod Deciding
pub mod DecidedExpressions
pub mod WholeRegions
pub mod DecidedParts
pub mod DecidedStatements
pub mod DecidedBodies
pub mod DecidedUnits
pub mod DecidedPrograms
pub mod ClosedEntities
pub mod FactsCounted
pub mod WithoutInstances
mod PlacedStatements
mod PlacedUnits
pub mod FactsInBase
pub mod SubprogramPlaces
pub mod KeptNames
pub mod NamedBodies
mod PlacedExpressions
mod PlacedDecisions
pub mod PlacedDecisionUnits
