-- What the code's subprograms are of the rules' definitions.
use Rattle.std.specs.Prelude.{◌≡◌, false, List, [], map, Option, Some, None, option_map}
use Rattle.std.specs.Borrow.{Bor}
use Rattle.ada_rules.specs.ada_meaning.specs.Program.{in_mode}
use Rattle.ada_tree.specs.View.{callee_of}
use Rattle.ada_tree.specs.Programs.{mode_of}
use Rattle.ada_rules.specs.Entities as rules
use Rattle.ada_entities.specs.declared.routines.Parameter.{Parameter}
use Rattle.ada_entities.specs.declared.routines.ResultMark.{ResultMark}
use Rattle.ada_entities.specs.declared.routines.Routine.{Routine}
use Rattle.ada_entities.specs.Views.{TypeTables, identity_of, subtype_of}
use Rattle.ada_entities.specs.EntityViews.{Tables, values_of, no_routine}
use Rattle.ada_entities.specs.StandardCode.{HasTestIo}

abbrev pub parameter_of : TypeTables → Parameter → rules.Parameter
parameter_of k q = record { name = q.name; mode = mode_of q.mode; mark = option_map identity_of q.mark; subtype = subtype_of k q.subtype }

-- a result has no name, and is what a parameter of mode `in` is
abbrev pub result_of : TypeTables → ResultMark → rules.Parameter
result_of k r = record { name = []; mode = in_mode; mark = option_map identity_of r.mark; subtype = subtype_of k r.subtype }

abbrev pub routine_in : Tables → Routine → rules.Routine
routine_in k r = record {
  callee = callee_of r.callee;
  parameters = map (parameter_of k.types) r.parameters;
  result = option_map (result_of k.types) r.result;
  values = values_of k r.values;
  awaits_body = false;
}

-- where there may be no subprogram
abbrev pub routine_from : Tables → Option (Bor Routine) → rules.Routine
routine_from k None = no_routine
routine_from k (Some r) = routine_in k r.now

-- whatever its numbers lead to
abbrev pub IsRoutine : Routine → rules.Routine → Type 0
IsRoutine r x = (k : Tables) → routine_in k r ≡ x

-- tables that have these subprograms, and then others
abbrev pub HasRoutines : Tables → List Routine → Type 0
HasRoutines k rs = k.routines ≡ map (routine_in k) rs

abbrev pub AreTestIo : List Routine → Type 0
AreTestIo rs = (k : Tables) → HasRoutines k rs → HasTestIo k
