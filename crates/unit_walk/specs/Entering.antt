-- The beginning and the end of a unit, of the rules' definitions.
use Rattle.std.specs.Prelude.{◌≡◌, ℕ, false, List, [], ◌∷◌, Option, None, Some}
use Rattle.ada_rules.specs.Environment.{World, State, Env}
use Rattle.ada_rules.specs.Statics.{Facts}
use Rattle.ada_rules.specs.Units.{env_of, in_package, at_unit, behind_unit}
use Rattle.ada_entities.specs.declared.entity.Entity.{Entity}
use Rattle.ada_entities.specs.EntityViews.{Tables, region_of}
use Rattle.ada_entities.specs.RegionCode.{enclosing}
use Rattle.ada_library.specs.declared.library.Library.{Library}
use Rattle.ada_demands.specs.SpanViews.{listed}
use Rattle.ada_phrases.specs.declared.scope.Step.{Step}
use Rattle.ada_phrases.specs.Scopes.{step_of}
use Rattle.program_walk.specs.declared.symbols.Symbols.{Symbols}
use Rattle.program_walk.specs.Alike.{IsKnownRegion}
use Rattle.program_walk.specs.Changes.{Becomes}
use Rattle.program_walk.specs.SymbolViews.{IsKnown}
use Rattle.program_walk.specs.declared.context.Context.{Context}
use Rattle.program_walk.specs.declared.context.Level.TheVariants as level
use Rattle.program_walk.specs.declared.context.Returning.TheVariants as returning
use Rattle.program_walk.specs.declared.walk.Walk.{Walk}
use Rattle.program_walk.specs.declared.found.Found.{Found}
use Rattle.program_walk.specs.States.{with_found, state_of}
use Rattle.program_walk.specs.Walks.{Begins, StandsAt}
use Rattle.program_walk.specs.Standing.{StandsBefore}

-- where a unit is looked at, outside of each package
pub record IsUnitContext (now : Step) (x : Library) (facts : List Facts) (n : ℕ) (name : List ℕ) (c : Context)
    : Type 0 where
  pub step : c.step ≡ now
  pub library : c.library.now ≡ x
  pub instances : c.instances.now ≡ facts
  pub unit : c.unit ≡ n
  pub unit_name : c.unit_name.now ≡ name
  pub subprogram_name : c.subprogram_name.now ≡ []
  pub generic : c.generic ≡ None
  pub own_package : c.own_package ≡ None
  pub level : c.level ≡ level.Library
  pub looping : c.is_looping ≡ false
  pub handling : c.is_handling ≡ false
  pub returning : c.returning ≡ returning.Nothing

-- the text of a package in it
abbrev pub IsPackageContext : Context → Option ℕ → ℕ → Context → Type 0
IsPackageContext c g own d = d ≡ record c { generic = g; own_package = Some own }

-- a unit that was entered, with what it sees of the library and with what its text has declared already
pub record IsEntered (old : Walk) (seen text : List (List ℕ × Entity)) (new : Walk) : Type 0 where
  pub symbols : Becomes old.symbols new.symbols (text ∷ seen ∷ []) old.symbols.units
  pub spans : listed new.spans ≡ listed old.spans
  pub state : (k : Tables) → state_of k new ≡ at_unit (state_of k old)

-- where no region was open, and these lead only to what is there
abbrev pub Enters : (old : Walk) → (seen text : List (List ℕ × Entity)) → (new : Walk) → Type 0
Enters old seen text new =
    old.symbols.regions ≡ [] → IsKnownRegion old.symbols.extent seen → IsKnownRegion old.symbols.extent text
    → IsKnown old.symbols → IsEntered old seen text new

-- both regions of a unit are closed
abbrev pub Leaves : (old new : Symbols) → Type 0
Leaves old new = Becomes old new (enclosing (enclosing old.regions)) old.units

-- the objects of the library level that a unit of this package has declared are noted
abbrev pub LeavesWords : (old : Found) → (unit package_unit : ℕ) → Option ℕ → (new : Found) → Type 0
LeavesWords old n own g new =
    (k : Tables) (env : Env) (s : State) → env.unit_number ≡ n → env.generic ≡ g
    → with_found k new s ≡ behind_unit env own (with_found k old s)

-- what the rules look at the unit in, and the text of a package
abbrev pub StandsInUnit : (old new : Walk) → Context → (seen : List (List ℕ × Entity)) → Type 0
StandsInUnit old new c seen =
    (k : Tables) (world : World) → StandsBefore c.library.now c.instances.now old k world → Begins new k
    → StandsAt c new k (env_of (step_of c.step) world c.unit c.unit_name.now (region_of k seen))

abbrev pub StandsInPackage : (old new : Walk) → Context → Option ℕ → ℕ → (seen text : List (List ℕ × Entity))
    → Type 0
StandsInPackage old new d g own seen text =
    (k : Tables) (world : World) → StandsBefore d.library.now d.instances.now old k world → Begins new k
    → StandsAt d new k
    (in_package (env_of (step_of d.step) world d.unit d.unit_name.now (region_of k seen)) g own (region_of k text))
