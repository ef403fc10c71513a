-- The bodies of units, between which the walk stands (Ada RM 2012, 7.2, 10.1).
use Rattle.std.specs.Prelude.{◌≡◌, ℕ, List, [], map, Option, Result, Ok, Err}
use Rattle.cov_base.specs.declared.position.Pos.{Pos}
use Rattle.cov_base.specs.declared.failure.Failure.{Failure}
use Rattle.ada_syntax.specs.declared.unit.PackageBody.{PackageBody}
use Rattle.ada_syntax.specs.declared.unit.SubprogramBody.{SubprogramBody}
use Rattle.ada_syntax.specs.declared.unit.Unit.{Unit as LibraryUnit}
use Rattle.ada_rules.specs.Entities.{key, Actual}
use Rattle.ada_rules.specs.Environment as environment
use Rattle.ada_rules.specs.Environment.{World, State, Env}
use Rattle.ada_rules.specs.Library.{Library as RulesLibrary, unit_named}
use Rattle.ada_rules.specs.Statics.{Facts}
use Rattle.ada_rules.specs.Units as rules
use Rattle.ada_entities.specs.Answers.{Refuses}
use Rattle.ada_entities.specs.declared.entity.Entity.{Entity}
use Rattle.ada_entities.specs.declared.fault.Refusal.{Refusal}
use Rattle.ada_entities.specs.declared.units.Interface.{Interface}
use Rattle.ada_entities.specs.EntityViews.{Tables, entity_of, region_of}
use Rattle.ada_entities.specs.UnitViews.{interface_of}
use Rattle.ada_library.specs.declared.library.Library.{Library}
use Rattle.ada_phrases.specs.declared.scope.Step.{Step}
use Rattle.ada_phrases.specs.Scopes.{step_of}
use Rattle.program_walk.specs.Changes.{Becomes}
use Rattle.program_walk.specs.declared.walk.Walk.{Walk}
use Rattle.program_walk.specs.States.{state_of}
use Rattle.program_walk.specs.Walks.{Begins, Continues}
use Rattle.program_walk.specs.Going.{Stays}
use Rattle.program_walk.specs.Standing.{StandsBefore}
use Rattle.unit_walk.specs.declared.place.UnitPlace.{UnitPlace}
use Rattle.unit_walk.specs.Interfaces.{IsIdle}
use Rattle.unit_walk.specs.Walked.{IsBetween, env_at}

-- What others see of a unit says what its body begins with: the declarations of its text, and the subprogram that its
-- name denotes.
abbrev pub IsTextIn : Interface → List (List ℕ × Entity) → Type 0
IsTextIn i r = (k : Tables) (actuals : ℕ → List Actual) → region_of k r ≡ rules.region_of (interface_of k actuals i)

abbrev pub IsRoutineIn : Interface → Entity → Type 0
IsRoutineIn i x =
    (k : Tables) (actuals : ℕ → List Actual) → entity_of k x ≡ rules.routine_entity (interface_of k actuals i)

-- the same of the unit with a number, in each world that has what is seen of these units
abbrev pub IsTextOf : List Interface → ℕ → List (List ℕ × Entity) → Type 0
IsTextOf units n r =
    (k : Tables) (actuals : ℕ → List Actual) (w : World) → w.interfaces ≡ map (interface_of k actuals) units
    → region_of k r ≡ rules.region_of (environment.interface_of w n)

abbrev pub IsRoutineOf : List Interface → ℕ → Entity → Type 0
IsRoutineOf units n x =
    (k : Tables) (actuals : ℕ → List Actual) (w : World) → w.interfaces ≡ map (interface_of k actuals) units
    → entity_of k x ≡ rules.routine_entity (environment.interface_of w n)

-- the walk behind bodies: no region is open, units are seen as before, and what was declared stays
pub record GoesByBodies (old new : Walk) : Type 0 where
  pub symbols : Becomes old.symbols new.symbols [] old.symbols.units
  pub continues : Continues old new

abbrev pub GoesByBodiesOn : {A : Type 0} → (old new : Walk) → Result A (Failure Refusal) → Type 0
GoesByBodiesOn old new (Ok x) = GoesByBodies old new
GoesByBodiesOn old new (Err f) = Stays old new f

-- The rules come to the state that the walk keeps, or refuse at the same place.
pub record IsWalkedTo (new : Walk) (k : Tables) (answer : Result State Pos) : Type 0 where
  pub comes : answer ≡ Ok (state_of k new)

abbrev pub WalkedTo : {A : Type 0} → Walk → Tables → Result State Pos → Result A (Failure Refusal) → Type 0
WalkedTo new k answer (Ok x) = IsWalkedTo new k answer
WalkedTo new k answer (Err f) = Refuses answer f

-- one body, of a unit that sees this of the library
abbrev pub PassesBody : {A : Type 0} → (old new : Walk) → (seen : List (List ℕ × Entity)) → Result A (Failure Refusal)
    → Type 0
PassesBody old new seen result = IsBetween old seen → GoesByBodiesOn old new result

-- The body of the unit at this place comes to what the rules say, in each world that has what the walk keeps. The unit
-- sees this of the library; instances have these facts.
abbrev pub ComesToBody : {A : Type 0} → UnitPlace → List Facts → (old new : Walk) → (seen : List (List ℕ × Entity))
    → (Env → State → Result State Pos) → Result A (Failure Refusal) → Type 0
ComesToBody p facts old new seen answer result =
    IsBetween old seen → (k : Tables) (world : World) → StandsBefore p.library.now facts old k world → Begins new k
    → WalkedTo new k (answer (env_at p world (region_of k seen)) (state_of k old)) result

-- the body of a library subprogram
pub record ComesToSubprogram {A : Type 0} (p : UnitPlace) (facts : List Facts) (old new : Walk)
    (seen : List (List ℕ × Entity)) (b : SubprogramBody) (result : Result A (Failure Refusal)) : Type 0 where
  pub comes : ComesToBody p facts old new seen (λ env s. (rules.library_body env s b).answer) result

-- bodies of the units of a library
abbrev pub PassesBodies : {A : Type 0} → Library → List LibraryUnit → (old new : Walk) → Result A (Failure Refusal)
    → Type 0
PassesBodies x units old new result =
    (all : List LibraryUnit) (l : RulesLibrary) → IsIdle x all l old → units ≡ l.units → GoesByBodiesOn old new result

abbrev pub ComesToBodies : {A : Type 0} → Library → List Facts → List LibraryUnit → (old new : Walk)
    → (RulesLibrary → World → State → Result State Pos) → Result A (Failure Refusal) → Type 0
ComesToBodies x facts units old new answer result =
    (all : List LibraryUnit) (l : RulesLibrary) → IsIdle x all l old → units ≡ l.units → (k : Tables) (world : World)
    → StandsBefore x facts old k world → Begins new k
    → WalkedTo new k (answer l world (state_of k old)) result

-- the body of a package, by the name of its unit
abbrev pub ComesToNamed : {A : Type 0} → UnitPlace → List Facts → List LibraryUnit → (old new : Walk) → LibraryUnit
    → PackageBody → Result A (Failure Refusal) → Type 0
ComesToNamed p facts units old new u b result =
    p.unit_name.now ≡ key b.name
    → ComesToBodies p.library.now facts units old new
    (λ l w s. (rules.package_body_of (step_of p.step) l w s p.unit u b (unit_named l.names (key b.name))).answer) result

-- the bodies of one unit, and those of all in the order of the text
abbrev pub ComesToBodiesOf : {A : Type 0} → Step → Library → List Facts → List LibraryUnit → (old new : Walk) → ℕ
    → LibraryUnit → Result A (Failure Refusal) → Type 0
ComesToBodiesOf step x facts units old new n u result =
    ComesToBodies x facts units old new (λ l w s. (rules.bodies_judged (step_of step) l w s n u u.item).answer) result

abbrev pub ComesToAllBodies : {A : Type 0} → Step → Library → List Facts → List LibraryUnit → (old new : Walk)
    → Result A (Failure Refusal) → Type 0
ComesToAllBodies step x facts units old new result =
    ComesToBodies x facts units old new
    (λ l w s. (rules.all_bodies_judged (step_of step) l w s 0 l.units).answer) result
