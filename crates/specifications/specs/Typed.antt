-- The parameters of a body, as the typed program has them.
use Rattle.std.specs.Prelude.{◌≡◌, List, map, Option}
use Rattle.std.specs.declared.alloc.Global.{Global}
use Rattle.std.specs.declared.vec.Vec.{Vec}
use Rattle.ada_meaning.specs.Program as program
use Rattle.ada_meaning.specs.Types.{here}
use Rattle.ada_tree.specs.Programs.{parameter_of}
use Rattle.ada_tree.specs.declared.program.Parameter.{Parameter as TreeParameter}
use Rattle.ada_rules.specs.Entities as rules
use Rattle.ada_rules.specs.Subprograms.{returning_of as given_of, typed_parameters}
use Rattle.ada_entities.specs.declared.routines.Parameter.{Parameter}
use Rattle.ada_entities.specs.EntityViews.{Tables}
use Rattle.specifications.specs.declared.conformance.Profile.{Profile}
use Rattle.specifications.specs.Profiles.{parameters_of, results_of}
use Rattle.program_walk.specs.declared.symbols.Symbols.{Symbols}
use Rattle.program_walk.specs.SymbolViews.{Begins, IsKnown}
use Rattle.program_walk.specs.States.{types_in}
use Rattle.program_walk.specs.Walks.{returning_of}
use Rattle.specifications.specs.declared.typed.Head.{Head}

abbrev pub parameters_there : Tables → List TreeParameter → List program.Parameter
parameters_there k qs = map (parameter_of (types_in k)) qs

-- parameters are the first objects of the subprogram, in order
abbrev pub AreTyped : Symbols → List Parameter → Vec TreeParameter Global → Type 0
AreTyped symbols qs typed =
    IsKnown symbols → (k : Tables) → Begins symbols k
    → parameters_there k typed.items ≡ typed_parameters 0 (parameters_of k here qs)

-- what a body takes of a profile: its parameters, and what its `return` gives
pub record HasHead (k : Tables) (h : Head) (qs : List rules.Parameter) (r : Option rules.Parameter) : Type 0 where
  pub parameters : parameters_there k h.parameters.items ≡ typed_parameters 0 qs
  pub returning : given_of r ≡ returning_of k h.returning

abbrev pub IsHeadOf : Symbols → Profile → Head → Type 0
IsHeadOf symbols q h =
    IsKnown symbols → (k : Tables) → Begins symbols k
    → HasHead k h (parameters_of k here q.parameters) (results_of k here q.result)
