-- What the rules make of units, between which the walk stands.
use Rattle.std.specs.Prelude.{◌≡◌, ℕ, List, [], Result, Ok, Err}
use Rattle.cov_base.specs.declared.position.Pos.{Pos}
use Rattle.cov_base.specs.declared.failure.Failure.{Failure}
use Rattle.ada_rules.specs.Entities.{Region}
use Rattle.ada_rules.specs.Environment.{World, State, Env}
use Rattle.ada_rules.specs.Statics.{Facts}
use Rattle.ada_rules.specs.Units.{Walked, env_of}
use Rattle.ada_entities.specs.Answers.{Refuses}
use Rattle.ada_entities.specs.declared.entity.Entity.{Entity}
use Rattle.ada_entities.specs.declared.fault.Refusal.{Refusal}
use Rattle.ada_entities.specs.EntityViews.{Tables, region_of}
use Rattle.ada_library.specs.declared.library.Library.{Library}
use Rattle.ada_phrases.specs.Scopes.{step_of}
use Rattle.program_walk.specs.Alike.{IsKnownRegion}
use Rattle.program_walk.specs.SymbolViews.{IsKnown}
use Rattle.program_walk.specs.declared.walk.Walk.{Walk}
use Rattle.program_walk.specs.States.{state_of}
use Rattle.program_walk.specs.Walks.{Begins, Continues}
use Rattle.program_walk.specs.Going.{Stays}
use Rattle.program_walk.specs.Standing.{StandsBefore}
use Rattle.unit_walk.specs.declared.place.UnitPlace.{UnitPlace}

-- a walk between units, where no region is open, before a unit that sees this of the library
pub record IsBetween (w : Walk) (seen : List (List ℕ × Entity)) : Type 0 where
  pub known : IsKnown w.symbols
  pub closed : w.symbols.regions ≡ []
  pub seen_known : IsKnownRegion w.symbols.extent seen

-- and the walk behind the unit
pub record GoesBehind (old new : Walk) : Type 0 where
  pub continues : Continues old new
  pub known : IsKnown new.symbols
  pub closed : new.symbols.regions ≡ []

abbrev pub PassesUnit : {A : Type 0} → (old new : Walk) → Result A (Failure Refusal) → Type 0
PassesUnit old new (Ok x) = GoesBehind old new
PassesUnit old new (Err f) = Stays old new f

abbrev pub Passes : {A : Type 0} → (old new : Walk) → (seen : List (List ℕ × Entity)) → Result A (Failure Refusal) → Type 0
Passes old new seen result = IsBetween old seen → PassesUnit old new result

-- The rules come to a world that has what the walk keeps.
pub record IsWalked (x : Library) (facts : List Facts) (new : Walk) (k : Tables) (answer : Result Walked Pos) : Type 0 where
  pub world : World
  pub comes : answer ≡ Ok (record { world = world; next = state_of k new })
  pub stands : StandsBefore x facts new k world

abbrev pub WalkedAs : {A : Type 0} → Library → List Facts → Walk → Tables → Result Walked Pos → Result A (Failure Refusal)
    → Type 0
WalkedAs x facts new k answer (Ok u) = IsWalked x facts new k answer
WalkedAs x facts new k answer (Err f) = Refuses answer f

-- where the rules look at the unit
abbrev pub env_at : UnitPlace → World → Region → Env
env_at p world region = env_of (step_of p.step) world p.unit p.unit_name.now region

-- What others see of the unit at this place comes to what the rules say, in each world that has what the walk keeps. It
-- sees this of the library; instances have these facts before and behind.
abbrev pub ComesToInterface : {A : Type 0} → UnitPlace → (before after : List Facts) → (old new : Walk)
    → (seen : List (List ℕ × Entity)) → (Env → State → Result Walked Pos) → Result A (Failure Refusal) → Type 0
ComesToInterface p before after old new seen answer result =
    IsBetween old seen → (k : Tables) (world : World) → StandsBefore p.library.now before old k world → Begins new k
    → WalkedAs p.library.now after new k (answer (env_at p world (region_of k seen)) (state_of k old)) result
