-- Where a construct stands in the walk, and what it comes to there, of the rules' definitions.
use Rattle.std.specs.Prelude.{◌≡◌, ℕ, Bool, true, false, List, [], map, replicate, Result}
use Rattle.cov_base.specs.declared.position.Pos.{Pos}
use Rattle.cov_base.specs.declared.failure.Failure.{Failure}
use Rattle.ada_syntax.specs.declared.unit.Unit.{Unit as LibraryUnit}
use Rattle.ada_rules.specs.Environment as rules
use Rattle.ada_rules.specs.Environment.{World, State, beginning_state, Given, given, Env, with_local}
use Rattle.ada_rules.specs.Library.{Library as RulesLibrary, all_bodies}
use Rattle.ada_entities.specs.declared.fault.Refusal.{Refusal}
use Rattle.ada_entities.specs.Answers.{Answers}
use Rattle.ada_entities.specs.Views.{subtype_of}
use Rattle.ada_entities.specs.EntityViews.{Tables, region_of}
use Rattle.ada_entities.specs.RegionCode.{innermost}
use Rattle.ada_library.specs.declared.library.Library.{Library}
use Rattle.ada_library.specs.LibraryView.{IsLibrary}
use Rattle.ada_demands.specs.SpanViews as spans
use Rattle.ada_demands.specs.SpanViews.{listed}
use Rattle.program_walk.specs.declared.symbols.Symbols.{Symbols}
use Rattle.program_walk.specs.SymbolViews as symbols
use Rattle.program_walk.specs.Sites.{Holds}
use Rattle.program_walk.specs.Changes.{Grows, ChangesInside, Opens, IsFresh}
use Rattle.program_walk.specs.declared.place.Place.{Place}
use Rattle.program_walk.specs.Places as places
use Rattle.program_walk.specs.declared.context.Context.{Context}
use Rattle.program_walk.specs.declared.context.Level.{Level}
use Rattle.program_walk.specs.declared.context.Level.TheVariants as level
use Rattle.program_walk.specs.declared.context.Returning.{Returning}
use Rattle.program_walk.specs.declared.context.Returning.TheVariants as returning
use Rattle.program_walk.specs.declared.walk.Walk.{Walk}
use Rattle.program_walk.specs.States.{state_of}

-- tables that begin with what the walk has declared, and with the values that it has listed
pub record Begins (w : Walk) (k : Tables) : Type 0 where
  pub symbols : symbols.Begins w.symbols k
  pub spans : spans.Begins (listed w.spans) k

-- the same tables began with what there was before
abbrev pub Continues : (old new : Walk) → Type 0
Continues old new = (k : Tables) → Begins new k → Begins old k

-- the library of a world: its bodies have the numbers that the library tells
pub record HasLibrary (x : Library) (w : World) : Type 0 where
  pub units : List LibraryUnit
  pub library : RulesLibrary
  pub is : IsLibrary x units library
  pub bodies : w.bodies ≡ all_bodies library.units

abbrev pub is_library : Level → Bool
is_library level.Library = true
is_library level.Inside = false

abbrev pub returning_of : Tables → Returning → rules.Returning
returning_of k returning.Nothing = rules.no_result
returning_of k (returning.Value t) = rules.result_of (subtype_of k.types t)

-- an environment that has what the context and the walk keep
pub record StandsAt (c : Context) (w : Walk) (k : Tables) (env : Env) : Type 0 where
  pub symbols : Holds c.step c.own_package w.symbols k env
  pub spans : spans.Begins (listed w.spans) k
  pub instances : env.world.instances ≡ c.instances.now
  pub generic : env.generic ≡ c.generic
  pub library : HasLibrary c.library.now env.world
  pub unit_number : env.unit_number ≡ c.unit
  pub unit_name : env.unit_name ≡ c.unit_name.now
  pub subprogram_name : env.subprogram_name ≡ c.subprogram_name.now
  pub level : env.is_library ≡ is_library c.level
  pub looping : env.is_looping ≡ c.is_looping
  pub handling : env.is_handling ≡ c.is_handling
  pub returning : env.returning ≡ returning_of k c.returning

-- A construct that is looked at there, in a walk that goes on from this state to that, comes to what the rules say,
-- whatever tables begin with what is there in the end.
abbrev pub ComesTo : {A B : Type 0} → (Tables → A → B) → Context → (old new : Walk)
    → (Tables → Env → State → Result (Given B) Pos) → Result A (Failure Refusal) → Type 0
ComesTo view c old new answer result =
    (k : Tables) (env : Env) → StandsAt c old k env → Begins new k
    → Answers (λ x. given (view k x) (state_of k new)) (answer k env (state_of k old)) result

-- the place for names and static expressions
abbrev pub IsPlaceOf : Context → Symbols → Place → Type 0
IsPlaceOf c symbols place =
    (k : Tables) (env : Env) → Holds c.step c.own_package symbols k env → env.world.instances ≡ c.instances.now
    → env.generic ≡ c.generic → places.StandsAt place k env

-- contexts further in: in a region inside, in a loop, in a handler
abbrev pub IsInside : Context → Context → Type 0
IsInside c d = d ≡ record c { level = level.Inside }

abbrev pub IsInLoop : Context → Context → Type 0
IsInLoop c d =
    (w : Walk) (k : Tables) (env : Env) → StandsAt c w k env → StandsAt d w k (rules.in_loop env)

abbrev pub IsInHandler : Context → Context → Type 0
IsInHandler c d =
    (w : Walk) (k : Tables) (env : Env) → StandsAt c w k env → StandsAt d w k (rules.in_handler env)

-- how what stood somewhere stands when the walk went on: this is what it stands in then
abbrev pub Leads : (c d : Context) → (old new : Walk) → (Tables → Env → Env) → Type 0
Leads c d old new f =
    (k : Tables) (env : Env) → StandsAt c old k env → Begins new k → StandsAt d new k (f k env)

-- with the innermost region as it is now
abbrev pub with_innermost : Walk → Tables → Env → Env
with_innermost w k env = with_local env (region_of k (innermost w.symbols.regions))

-- before any of so many units was looked at
pub record IsBeginning (count : ℕ) (w : Walk) : Type 0 where
  pub symbols : IsFresh count w.symbols
  pub spans : listed w.spans ≡ []
  pub state : (k : Tables) → state_of k w ≡ beginning_state
