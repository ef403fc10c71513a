pub mod Ordered
pub mod InOrder
pub mod Looked
pub mod Within
pub mod Resolved
pub mod Worked
pub use Rattle.legal_programs
