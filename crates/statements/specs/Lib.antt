pub mod Words
pub mod Handling
pub mod Loops
pub mod Nested
pub mod Begun
pub mod Made
pub use Rattle.declarations.specs.Locals
pub use Rattle.declarations.specs.Values
