-- What walks over units are told by, handed on to the layer above.
pub use Rattle.program_walk.specs.Standing.{StandsBefore}
pub use Rattle.unit_interfaces.specs.unit_walk.specs.Bodies.{PassesBodies, ComesToAllBodies}
pub use Rattle.unit_interfaces.specs.unit_walk.specs.Interfaces.{IsIdle, PassesUnits, ComesToUnits}
pub use Rattle.unit_interfaces.specs.unit_walk.specs.Walked.{GoesBehind, IsWalked}
