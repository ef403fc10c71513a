pub use Rattle.program_weights.specs.Wholes
pub use Rattle.walked_program.specs.Checking
pub use Rattle.walked_program.specs.declared.fault
