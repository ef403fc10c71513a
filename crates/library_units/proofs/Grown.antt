-- That a world stands before a walk which has grown, handed on to the layer above.
pub use Rattle.unit_interfaces.specs.unit_walk.proofs.StandingLaws.{grown}
