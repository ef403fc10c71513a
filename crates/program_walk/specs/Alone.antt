-- What numbers lead to in the tables of just what a symbol table keeps.
use Rattle.std.specs.Prelude.{◌≡◌, ℕ, List, Option, slice_get, unwrap_or}
use Rattle.std.specs.Borrow.{Bor}
use Rattle.ada_rules.specs.Statics.{Spans}
use Rattle.ada_entities.specs.declared.entity.RoutineName.{RoutineName}
use Rattle.ada_entities.specs.declared.routines.Routine.{Routine}
use Rattle.ada_entities.specs.EntityViews.{Tables, no_routine, routine_of}
use Rattle.ada_entities.specs.RoutineViews.{routine_from}
use Rattle.program_walk.specs.declared.symbols.Symbols.{Symbols}
use Rattle.program_walk.specs.Exact.{exact}

-- what is the same in tables and in those of just what is there
abbrev pub IsAlike : {A : Type 0} → (Tables → A) → Symbols → Tables → Type 0
IsAlike view symbols k = view k ≡ view (exact symbols k.spans)

abbrev pub IsRoutineAlike : RoutineName → Symbols → Tables → Type 0
IsRoutineAlike r symbols k = IsAlike (λ l. routine_of l r) symbols k

-- the subprogram with this number, where there is one; else it is one that names nothing
abbrev pub IsRoutineAlone : Symbols → ℕ → Option (Bor Routine) → Type 0
IsRoutineAlone symbols n o =
    (spans : List Spans)
    → unwrap_or (slice_get (exact symbols spans).routines n) no_routine ≡ routine_from (exact symbols spans) o
