-- Where a program passes a limit first.
use Rattle.std.specs.Prelude.{◌≡◌, ℕ, List, map, reverse, Option}
use Rattle.cov_base.specs.declared.position.Pos.{Pos}
use Rattle.ada_syntax.specs.declared.unit.Unit.{Unit as LibraryUnit}
use Rattle.ada_meaning.specs.Types as type
use Rattle.ada_tree.specs.declared.types.TypeDeclaration.{TypeDeclaration}
use Rattle.ada_tree.specs.Programs.{types_of}
use Rattle.ada_rules.specs.Entities.{Actual}
use Rattle.ada_rules.specs.Environment.{World}
use Rattle.ada_rules.specs.Limits as rules
use Rattle.ada_rules.specs.Statics.{Facts}
use Rattle.ada_entities.specs.declared.units.Interface.{Interface}
use Rattle.ada_entities.specs.EntityViews.{Tables}
use Rattle.ada_entities.specs.UnitViews.{interface_of}
use Rattle.program_walk.specs.declared.found.UnitWords.{UnitWords}
use Rattle.program_walk.specs.declared.walk.Walk.{Walk}
use Rattle.program_walk.specs.States.{state_of, types_in}
use Rattle.word_limits.specs.Counting.{unit_by}

-- a world with these interfaces of units, and with instances that have this
pub record HasUnits (instances : List Facts) (units : List Interface) (w : World) : Type 0 where
  pub k : Tables
  pub actuals : ℕ → List Actual
  pub facts : w.instances ≡ instances
  pub interfaces : w.interfaces ≡ map (interface_of k actuals) units

-- the first unit at which the library level passes its limit, in each such world
abbrev pub IsFirstUnit : List Facts → List type.Subtype → List Interface → List UnitWords → List LibraryUnit
    → Option Pos → Type 0
IsFirstUnit instances types interfaces found units p =
    (w : World) → HasUnits instances interfaces w
    → p ≡ rules.first_unit w (reverse (map (unit_by types) found)) 0 0 units

-- the first of all, where the tables keep these composite types
abbrev pub IsFirstExcess : List TypeDeclaration → List Facts → Walk → List LibraryUnit → Option Pos → Type 0
IsFirstExcess types instances walk units p =
    (k : Tables) (w : World) → types_of types ≡ types_in k → HasUnits instances walk.symbols.units w
    → p ≡ rules.first_excess w (state_of k walk) units
