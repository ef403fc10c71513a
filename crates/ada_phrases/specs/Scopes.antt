-- Where the checker stands: what the rules look at a construct in.
use Rattle.std.specs.Prelude.{◌≡◌, ℕ, List, Option, Some, None, option_map}
use Rattle.ada_rules.specs.Entities as entities
use Rattle.ada_rules.specs.Entities.{Actual, test_io_region}
use Rattle.ada_rules.specs.Environment as rules
use Rattle.ada_rules.specs.Environment.{Env, regions_of}
use Rattle.ada_rules.specs.Expressions.{part_of_unit}
use Rattle.ada_entities.specs.declared.entity.Entity.{Entity}
use Rattle.ada_entities.specs.TypeTable.{tables}
use Rattle.ada_entities.specs.EntityViews.{Tables, entity_of, region_of}
use Rattle.ada_entities.specs.RegionCode.{in_standard, region_at}
use Rattle.ada_entities.specs.RoutineViews.{HasRoutines}
use Rattle.ada_entities.specs.StandardCode.{HasTestIo}
use Rattle.ada_entities.specs.UnitViews.{AreUnits}
use Rattle.ada_phrases.specs.declared.scope.Step.{Step}
use Rattle.ada_phrases.specs.declared.scope.Step.TheVariants as step
use Rattle.ada_phrases.specs.declared.scope.Scope.{Scope}

abbrev pub step_of : Step → rules.Step
step_of step.Naming = rules.naming
step_of step.Typing = rules.typing

-- the declarations of a package's text stand directly inside what its unit sees of the library
abbrev pub text_depth : ℕ
text_depth = 1

abbrev pub IsText : Tables → List (List (List ℕ × Entity)) → Env → Option ℕ → Type 0
IsText k rs env None = env.own_package ≡ None
IsText k rs env (Some n) = (env.own_package ≡ Some n) × (env.own ≡ region_of k (region_at text_depth rs))

-- an environment that has what the scope keeps, where its numbers lead to this
pub record StandsIn (scope : Scope) (k : Tables) (env : Env) : Type 0 where
  pub step : env.step ≡ step_of scope.step
  pub regions : regions_of env ≡ in_standard k scope.regions.now
  pub text : IsText k scope.regions.now env scope.own_package
  pub actuals : ℕ → List Actual
  pub units : AreUnits (tables scope.types.now) scope.units.now k actuals env.world
  pub routines : HasRoutines k scope.routines.now
  pub test_io : HasTestIo k
  pub standard : env.world.standard.test_io_declarations ≡ test_io_region

-- what a name denotes there
abbrev pub IsVisible : Scope → List ℕ → Option Entity → Type 0
IsVisible scope name x =
    (k : Tables) (env : Env) → StandsIn scope k env → option_map (entity_of k) x
    ≡ entities.visible name (regions_of env)

abbrev pub IsPartOfUnit : Scope → ℕ → List ℕ → Option Entity → Type 0
IsPartOfUnit scope n name x =
    (k : Tables) (env : Env) → StandsIn scope k env → option_map (entity_of k) x ≡ part_of_unit env n name

abbrev pub IsPartOfTestIo : Scope → List ℕ → Option Entity → Type 0
IsPartOfTestIo scope name x =
    (k : Tables) (env : Env) → StandsIn scope k env
    → option_map (entity_of k) x ≡ entities.entity_of name env.world.standard.test_io_declarations
