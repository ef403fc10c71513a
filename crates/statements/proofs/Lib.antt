pub mod SimpleLaws
pub mod NestedLaws
pub mod LoopLaws
pub mod Steps
pub mod Rows
pub mod RowsOf
pub mod HandlerRows
