-- Subprograms and names for formal ones, whatever tables begin with what is there.
use Rattle.std.specs.Prelude.{List, map, Option, option_map}
use Rattle.ada_meaning.specs.Types.{Owner}
use Rattle.ada_rules.specs.Types as types
use Rattle.ada_rules.specs.Entities as rules
use Rattle.ada_rules.specs.Entities.{Actual, type_seen}
use Rattle.ada_rules.specs.Denoted as names
use Rattle.ada_rules.specs.Instances.{actual_for_name}
use Rattle.ada_entities.specs.declared.routines.Parameter.{Parameter}
use Rattle.ada_entities.specs.declared.routines.ResultMark.{ResultMark}
use Rattle.ada_entities.specs.declared.routines.Routine.{Routine}
use Rattle.ada_entities.specs.declared.types.AdaType.{AdaType}
use Rattle.ada_entities.specs.EntityViews.{Tables, routine_by}
use Rattle.ada_entities.specs.RoutineViews.{routine_in}
use Rattle.ada_entities.specs.Views.{type_by, type_of}
use Rattle.program_walk.specs.declared.symbols.Symbols.{Symbols}
use Rattle.program_walk.specs.SymbolViews.{Begins, IsKnown}
use Rattle.specifications.specs.declared.profiles.Matching.{Matching}
use Rattle.specifications.specs.Actuals.{actuals_of}
use Rattle.specifications.specs.Profiles.{parameter_seen, result_seen}

-- what holds in each table that begins with these symbols
abbrev pub Says : Symbols → (Tables → Type 0) → Type 0
Says symbols P = IsKnown symbols → (k : Tables) → Begins symbols k → P k

-- what a subprogram and its type are, as it is seen
abbrev pub type_as : Tables → Owner → AdaType → types.AdaType
type_as k o t = type_by k.types o (type_of k.types t)

abbrev pub routine_as : Tables → Owner → Routine → rules.Routine
routine_as k o r = routine_by k o (routine_in k r)

-- those of the generic's text, with what the instance has so far
abbrev pub given_so_far : Matching → Tables → List Actual
given_so_far m k = actuals_of k m.instantiation.actuals.now

abbrev pub formal_type : Matching → Tables → Owner → AdaType → types.AdaType
formal_type m k o t = type_seen m.instantiation.number (given_so_far m k) (type_as k o t)

abbrev pub through : Matching → Tables → rules.Parameter → rules.Parameter
through m k q = rules.parameter_seen m.instantiation.number (given_so_far m k) q

abbrev pub formal_parameter : Matching → Tables → Owner → Parameter → rules.Parameter
formal_parameter m k o q = through m k (parameter_seen k o q)

abbrev pub formal_parameters : Matching → Tables → Owner → List Parameter → List rules.Parameter
formal_parameters m k o qs = map (formal_parameter m k o) qs

abbrev pub formal_result : Matching → Tables → Owner → Option ResultMark → Option rules.Parameter
formal_result m k o r = option_map (λ q. through m k (result_seen k o q)) r

abbrev pub routine_through : Matching → Tables → rules.Routine → rules.Routine
routine_through m k r = rules.routine_seen m.instantiation.number (given_so_far m k) r

abbrev pub formal_routine : Matching → Tables → Owner → Routine → rules.Routine
formal_routine m k o r = routine_through m k (routine_as k o r)

-- what a name gives for a formal
abbrev pub for_name : Matching → Tables → rules.Entity → names.Denoted → Option Actual
for_name m k x d = actual_for_name m.instantiation.number (given_so_far m k) x d
