-- All units of a library, as others see them, one behind the other.
use Rattle.std.specs.Prelude.{◌≡◌, ℕ, List, [], Result}
use Rattle.cov_base.specs.declared.position.Pos.{Pos}
use Rattle.cov_base.specs.declared.failure.Failure.{Failure}
use Rattle.ada_syntax.specs.declared.unit.Unit.{Unit as LibraryUnit}
use Rattle.ada_rules.specs.Environment.{World, State}
use Rattle.ada_rules.specs.Library.{Library as RulesLibrary}
use Rattle.ada_rules.specs.Statics.{Facts}
use Rattle.ada_rules.specs.Units.{Walked, interface_judged, all_interfaces}
use Rattle.ada_entities.specs.declared.fault.Refusal.{Refusal}
use Rattle.ada_entities.specs.EntityViews.{Tables}
use Rattle.ada_library.specs.declared.library.Library.{Library}
use Rattle.ada_library.specs.LibraryView.{IsLibrary}
use Rattle.ada_phrases.specs.declared.scope.Step.{Step}
use Rattle.ada_phrases.specs.Scopes.{step_of}
use Rattle.program_walk.specs.SymbolViews.{IsKnown}
use Rattle.program_walk.specs.declared.walk.Walk.{Walk}
use Rattle.program_walk.specs.States.{state_of}
use Rattle.program_walk.specs.Walks.{Begins}
use Rattle.program_walk.specs.Standing.{StandsBefore}
use Rattle.unit_walk.specs.Walked.{PassesUnit, WalkedAs}

-- a walk between units of this library, where no region is open
pub record IsIdle (x : Library) (all : List LibraryUnit) (l : RulesLibrary) (w : Walk) : Type 0 where
  pub library : IsLibrary x all l
  pub known : IsKnown w.symbols
  pub closed : w.symbols.regions ≡ []

abbrev pub PassesUnits : {A : Type 0} → Library → (old new : Walk) → Result A (Failure Refusal) → Type 0
PassesUnits x old new result = (all : List LibraryUnit) (l : RulesLibrary) → IsIdle x all l old → PassesUnit old new result

-- What the rules make of units comes to this, in each world that has what the walk keeps.
abbrev pub ComesToWorld : {A : Type 0} → Library → (before after : List Facts) → (old new : Walk)
    → (RulesLibrary → World → State → Result Walked Pos) → Result A (Failure Refusal) → Type 0
ComesToWorld x before after old new answer result =
    (all : List LibraryUnit) (l : RulesLibrary) → IsIdle x all l old → (k : Tables) (world : World)
    → StandsBefore x before old k world → Begins new k → WalkedAs x after new k (answer l world (state_of k old)) result

-- one unit, and all of them in the order of the library
abbrev pub ComesToUnit : {A : Type 0} → Step → Library → (before after : List Facts) → (old new : Walk) → ℕ → LibraryUnit
    → Result A (Failure Refusal) → Type 0
ComesToUnit step x before after old new n u result =
    ComesToWorld x before after old new (λ l w s. (interface_judged (step_of step) l w s n u u.item).answer) result

abbrev pub ComesToUnits : {A : Type 0} → Step → Library → (before after : List Facts) → (old new : Walk) → List LibraryUnit
    → Result A (Failure Refusal) → Type 0
ComesToUnits step x before after old new units result =
    (all : List LibraryUnit) (l : RulesLibrary) → IsIdle x all l old → units ≡ l.units → (k : Tables) (world : World)
    → StandsBefore x before old k world → Begins new k
    → WalkedAs x after new k
    (all_interfaces (step_of step) l (record { world = world; next = state_of k old }) l.order).answer result
