pub mod Kept
pub mod Behaving
pub mod Images
pub mod RowStarts
pub mod Conditions
pub mod DecisionEntries
pub mod Counts
pub mod TextsOf
pub mod Instances
pub mod Found
pub mod Roles
pub mod Placing
pub mod Statements
pub mod Sound
pub mod Legal
pub mod MarksOf
pub mod Core
pub mod Refusals
pub mod Placeable
pub mod Entries
pub mod Weighed
pub mod Copies
pub mod InstanceEntries
pub mod Numbers
pub mod Texts
pub mod UnitLaws
mod Kernels
mod LabelCounts
mod DecisionCounts
pub mod UnfoldedSizes
pub mod LaidPrograms
mod ExceptionNames
pub mod Expanded
pub mod OneCopy
pub mod Pairing
pub mod RegionCounts
pub mod RegionFields
