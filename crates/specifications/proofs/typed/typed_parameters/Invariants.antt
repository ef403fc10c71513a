-- What is left of the parameters, behind those that were typed, is all of them.
use Rattle.std.proofs.Common.{◌≡◌, ◌++◌, drop}
use Rattle.ada_meaning.specs.Types.{here}
use Rattle.ada_rules.specs.Subprograms.{typed_parameters}
use Rattle.ada_entities.specs.EntityViews.{Tables}
use Rattle.specifications.specs.Profiles.{parameters_of}
use Rattle.program_walk.specs.SymbolViews.{Begins, IsKnown}
use Rattle.specifications.specs.Typed.{parameters_there}
use Rattle.specifications.proofs.typed.typed_parameters.Given as goal

abbrev pub invariant-loop-parameter : goal.invariant-loop-parameter
invariant-loop-parameter l =
    IsKnown l.fn.symbols → (k : Tables) → Begins l.fn.symbols k
    → parameters_there k l.typed.items ++ typed_parameters l.number (parameters_of k here (drop l.parameter-index l.fn.parameters))
    ≡ typed_parameters 0 (parameters_of k here l.fn.parameters)
