pub mod Number
pub mod TextOrder
pub mod Lists
pub mod Expr
pub mod Expression
pub mod Graph
pub mod Marks
pub mod Path
