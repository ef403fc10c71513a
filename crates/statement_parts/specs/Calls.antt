-- Calls of procedures, as the checker finds them.
use Rattle.std.specs.Prelude.{◌≡◌, List, Option, option_map}
use Rattle.ada_meaning.specs.Tree as tree
use Rattle.ada_tree.specs.declared.expr.Actual.{Actual}
use Rattle.ada_tree.specs.declared.label.Label.{Label}
use Rattle.ada_tree.specs.declared.types.Owner.{Owner}
use Rattle.ada_tree.specs.View.{owner_of, label_of, actuals_of}
use Rattle.ada_rules.specs.Denoted.{called_bare}
use Rattle.ada_rules.specs.Entities as entities
use Rattle.ada_rules.specs.Statements as rules
use Rattle.ada_entities.specs.declared.entity.RoutineName.{RoutineName}
use Rattle.ada_entities.specs.declared.routines.Routine.{Routine}
use Rattle.ada_entities.specs.EntityViews.{Tables, routine_by, routine_of}
use Rattle.ada_entities.specs.RoutineViews.{routine_in}
use Rattle.ada_phrases.specs.declared.names.Denoted.{Denoted}
use Rattle.ada_phrases.specs.DenotedView.{denotes}
use Rattle.object_values.specs.program_walk.specs.declared.symbols.Symbols.{Symbols}
use Rattle.object_values.specs.program_walk.specs.Alone.{IsAlike, IsRoutineAlike}
use Rattle.statement_parts.specs.Simple.{in_tree}

-- a call of this subprogram, as it is seen, with actuals and without
abbrev pub IsProcedureCall : Label → Routine → Owner → List Actual → Option tree.Stmt → Type 0
IsProcedureCall l r o actuals found =
    (k here : Tables)
    → option_map (in_tree k) found
    ≡ rules.procedure_called (label_of l) (routine_by here (owner_of o) (routine_in here r)) (actuals_of actuals)

abbrev pub called_alone : Label → entities.Routine → Option tree.Stmt
called_alone l r = called_bare r (rules.procedure_called (label_of l) r tree.no_actual)

abbrev pub IsBareProcedureCall : Label → Routine → Owner → Option tree.Stmt → Type 0
IsBareProcedureCall l r o found =
    (k here : Tables)
    → option_map (in_tree k) found ≡ called_alone l (routine_by here (owner_of o) (routine_in here r))

-- the same by a name, in tables where it names what it names by all that is there
abbrev pub IsCall : Symbols → Label → RoutineName → List Actual → Option tree.Stmt → Type 0
IsCall symbols l r actuals found =
    (k : Tables) → IsRoutineAlike r symbols k
    → option_map (in_tree k) found ≡ rules.procedure_called (label_of l) (routine_of k r) (actuals_of actuals)

abbrev pub IsBareCall : Symbols → Label → RoutineName → Option tree.Stmt → Type 0
IsBareCall symbols l r found =
    (k : Tables) → IsRoutineAlike r symbols k → option_map (in_tree k) found ≡ called_alone l (routine_of k r)

abbrev pub IsCallOf : Symbols → Label → Denoted → Option tree.Stmt → Type 0
IsCallOf symbols l d found =
    (k : Tables) → IsAlike (λ here. denotes here d) symbols k
    → option_map (in_tree k) found ≡ rules.call_of (label_of l) (denotes k d)
