mod Sums
mod Picking
mod Cycles
mod WholeOrder
pub mod InstanceNumbers
pub mod KeptInstances
mod KeptWalk
mod KeptInterfaces
mod SortedKeys
mod TextInstances
mod LegalInstances
pub mod NumberedInstances
mod WithinMore
mod WithinNames
mod WithinStatics
mod WithinDeclarations
mod WithinStatements
mod WithinBodies
mod WithinWorld
mod WithinFormals
mod FormedActuals
mod ValuesAgree
pub mod WithinUnits
mod WithinInstances
pub mod WithinLibrary
pub mod OwnValues
mod WellFormedTexts
