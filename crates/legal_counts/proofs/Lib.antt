mod Lists
mod Tests
mod ConditionExpressions
mod ConditionStatements
pub mod ConditionUnits
pub mod HeldDecisions
mod NodesOfExpressions
mod ExceptionNames
mod OutsideTypes
mod NodesOfStatements
pub mod NodesOfUnits
pub mod WordsOfTypes
pub mod WordsOfSubprograms
pub mod WordsOfLibrary
pub mod GenericsOfBodies
mod NotedDeclarations
mod NotedStatements
mod NotedItems
mod NotedFormals
mod NotedUnits
pub mod SeenUnits
mod ShownInstances
mod ExceptionDeclarations
mod ExceptionStatements
mod ExceptionBodies
mod ExceptionUnits
pub mod ExceptionNodes
pub mod NodesByGeneric
pub mod ShownInterfaces
pub mod InstancesByGeneric
pub mod WordsOfInstances
pub mod TextsOfDeclarations
pub mod SeenInstances
