-- Profiles of subprograms, and conformance, as the checker keeps them.
use Rattle.std.specs.Prelude.{◌≡◌, Bool, List, map, Option, Some, None, option_map, Result}
use Rattle.cov_base.specs.declared.failure.Failure.{Failure}
use Rattle.cov_base.specs.declared.position.Pos.{Pos}
use Rattle.ada_syntax.specs.declared.name.Identifier.{Identifier}
use Rattle.ada_meaning.specs.Types.{Owner, here}
use Rattle.ada_rules.specs.Entities as rules
use Rattle.ada_rules.specs.Entities.{Region, entity_of, key}
use Rattle.ada_rules.specs.Subprograms as subprograms
use Rattle.ada_rules.specs.Subprograms.{conforms}
use Rattle.ada_entities.specs.declared.entity.RoutineName.{RoutineName}
use Rattle.ada_entities.specs.declared.fault.Refusal.{Refusal}
use Rattle.ada_entities.specs.declared.routines.Parameter.{Parameter}
use Rattle.ada_entities.specs.declared.routines.ResultMark.{ResultMark}
use Rattle.ada_entities.specs.Answers.{Answers}
use Rattle.ada_entities.specs.EntityViews.{Tables, routine_of}
use Rattle.ada_entities.specs.RoutineViews.{parameter_of, result_of}
use Rattle.ada_phrases.specs.Routines.{parameter_by}
use Rattle.program_walk.specs.declared.symbols.Symbols.{Symbols}
use Rattle.program_walk.specs.SymbolViews.{Begins, IsKnown}
use Rattle.specifications.specs.declared.conformance.Profile.{Profile}

-- a construct that comes to nothing but that it passes
abbrev pub passed : {A : Type 0} → A → Unit {0}
passed x = tt

abbrev pub IsClosed : (name : Identifier) → Option Identifier → Result (Unit {0}) (Failure Refusal) → Type 0
IsClosed name end result = (p : Pos) → Answers passed (subprograms.closed_by p name end).answer result

-- parameters and results as they are seen: in their own text, or through an instance
abbrev pub parameter_seen : Tables → Owner → Parameter → rules.Parameter
parameter_seen k o q = parameter_by k o (parameter_of k.types q)

abbrev pub parameters_of : Tables → Owner → List Parameter → List rules.Parameter
parameters_of k o qs = map (parameter_seen k o) qs

abbrev pub result_seen : Tables → Owner → ResultMark → rules.Parameter
result_seen k o r = parameter_by k o (result_of k.types r)

abbrev pub results_of : Tables → Owner → Option ResultMark → Option rules.Parameter
results_of k o r = option_map (result_seen k o) r

-- a profile, whose parameters are declared in this region
abbrev pub profile_of : Tables → Region → Profile → subprograms.Profile
profile_of k region q = record {
  parameters = parameters_of k here q.parameters;
  result = results_of k here q.result;
  region = region;
}

abbrev pub IsConformity : Tables → rules.Routine → Profile → Bool → Type 0
IsConformity k r q b = (region : Region) → b ≡ conforms (profile_of k region q) (Some (rules.routine r))

-- what a body completes: a declaration, or else its own name has been hidden so far
abbrev pub completing : Tables → Option RoutineName → rules.Entity
completing k None = rules.hidden
completing k (Some r) = rules.routine (routine_of k r)

-- a body conforms to what it completes, in whatever region that is declared
abbrev pub IsConforming : Symbols → Pos → Option RoutineName → Profile → Result (Unit {0}) (Failure Refusal) → Type 0
IsConforming symbols p declaration q result =
    IsKnown symbols → (k : Tables) → Begins symbols k → (i : Identifier) (region parameters : Region)
    → entity_of (key i) region ≡ Some (completing k declaration)
    → Answers passed (subprograms.conforming p region i (profile_of k parameters q)).answer result
