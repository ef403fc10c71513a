-- Subprograms that are declared, as the walk goes on.
use Rattle.std.specs.Prelude.{◌≡◌, ℕ, List, Option, unwrap_or, Result}
use Rattle.cov_base.specs.declared.position.Pos.{Pos}
use Rattle.cov_base.specs.declared.failure.Failure.{Failure}
use Rattle.ada_syntax.specs.declared.name.Identifier.{Identifier}
use Rattle.ada_rules.specs.Entities.{key, routine, Region, redefined}
use Rattle.ada_rules.specs.Environment.{State, Given, Env}
use Rattle.ada_rules.specs.Subprograms.{body_number, routine_of}
use Rattle.ada_entities.specs.declared.entity.Completion.{Completion}
use Rattle.ada_entities.specs.declared.fault.Refusal.{Refusal}
use Rattle.ada_entities.specs.declared.routines.Routine.{Routine}
use Rattle.ada_entities.specs.declared.entity.RoutineName.{RoutineName}
use Rattle.ada_entities.specs.EntityViews as entity
use Rattle.ada_entities.specs.EntityViews.{Tables, awaits_body, awaiting, region_of}
use Rattle.ada_entities.specs.RegionCode.{innermost}
use Rattle.ada_entities.specs.RoutineViews.{routine_in}
use Rattle.program_walk.specs.declared.symbols.Symbols.{Symbols}
use Rattle.program_walk.specs.SymbolViews as symbols
use Rattle.specifications.specs.declared.conformance.Profile.{Profile}
use Rattle.specifications.specs.Profiles.{profile_of}
use Rattle.program_walk.specs.declared.context.Context.{Context}
use Rattle.program_walk.specs.declared.walk.Walk.{Walk}
use Rattle.program_walk.specs.Walks.{HasLibrary, ComesTo}
use Rattle.program_walk.specs.Going.{region_in}

-- a name denotes this subprogram
abbrev pub EntersRoutine : (old new : Symbols) → Identifier → Routine → Completion → Type 0
EntersRoutine old new i r completion =
    (k : Tables) → symbols.Begins new k
    → region_of k (innermost new.regions)
    ≡ redefined (key i) (routine (awaiting (awaits_body completion) (routine_in k r))) (region_of k (innermost old.regions))

-- a subprogram with this profile, wherever its parameters were declared; one whose body is none of the unit's has the
-- number 0
abbrev pub IsRoutineWith : (generic : Option ℕ) → Profile → (body : ℕ) → Routine → Type 0
IsRoutineWith generic q body r =
    (k : Tables) (env : Env) (name : List ℕ) (region : Region) (w : Completion) → env.generic ≡ generic
    → unwrap_or (body_number env.world env.unit_name name) 0 ≡ body
    → awaiting (awaits_body w) (routine_in k r) ≡ routine_of env name (awaits_body w) (profile_of k region q)

-- what it is named by
abbrev pub IsRoutineOf : (new : Symbols) → (generic : Option ℕ) → Profile → (body : ℕ) → Completion → RoutineName → Type 0
IsRoutineOf new generic q body w r =
    (k : Tables) (env : Env) (name : List ℕ) (region : Region) → symbols.Begins new k → env.generic ≡ generic
    → unwrap_or (body_number env.world env.unit_name name) 0 ≡ body
    → entity.routine_of k r ≡ routine_of env name (awaits_body w) (profile_of k region q)

-- a name denotes the subprogram with this profile, wherever its parameters were declared; one whose body is none of the
-- unit's has the number 0
abbrev pub AddsRoutine : (old new : Symbols) → (generic : Option ℕ) → Identifier → Profile → (body : ℕ) → Completion
    → Type 0
AddsRoutine old new generic i q body completion =
    (k : Tables) (env : Env) (region : Region) → symbols.Begins new k → env.generic ≡ generic
    → unwrap_or (body_number env.world env.unit_name (key i)) 0 ≡ body
    → region_of k (innermost new.regions)
    ≡ redefined (key i) (routine (routine_of env (key i) (awaits_body completion) (profile_of k region q)))
    (region_of k (innermost old.regions))

-- the number of a body of the unit
abbrev pub IsBodyIn : Context → Identifier → Option ℕ → Type 0
IsBodyIn c i n =
    (env : Env) → HasLibrary c.library.now env.world → env.unit_name ≡ c.unit_name.now
    → n ≡ body_number env.world env.unit_name (key i)

-- what changes the innermost region alone, and gives it
abbrev pub region_there : {A : Type 0} → Walk → Tables → A → Region
region_there w k x = region_in k w

abbrev pub ComesToRegion : {A : Type 0} → Context → (old new : Walk)
    → (Tables → Env → State → Result (Given Region) Pos) → Result A (Failure Refusal) → Type 0
ComesToRegion c old new answer result = ComesTo (region_there new) c old new answer result
