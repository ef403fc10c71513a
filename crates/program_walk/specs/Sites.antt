-- Where a construct stands, and what the rules look at it in.
use Rattle.std.specs.Prelude.{◌≡◌, ℕ, ◌<◌, Bool, true, false, List, length, map, Option, Some, None, option_map, Result}
use Rattle.cov_base.specs.declared.position.Pos.{Pos}
use Rattle.cov_base.specs.declared.failure.Failure.{Failure}
use Rattle.ada_rules.specs.Entities.{Actual, visible, whole_standard}
use Rattle.ada_rules.specs.Environment.{World, State, Given, given, Env, regions_of}
use Rattle.ada_entities.specs.declared.entity.Entity.{Entity}
use Rattle.ada_entities.specs.declared.fault.Refusal.{Refusal}
use Rattle.ada_entities.specs.Answers.{Answers}
use Rattle.ada_entities.specs.Views.{actuals_of}
use Rattle.ada_entities.specs.EntityViews.{Tables, entity_of, region_of}
use Rattle.ada_entities.specs.RegionCode.{in_standard, region_at}
use Rattle.ada_entities.specs.UnitViews.{GiveSame, interface_of}
use Rattle.ada_phrases.specs.declared.decisions.Decisions.{Decisions}
use Rattle.ada_phrases.specs.declared.scope.Step.{Step}
use Rattle.ada_phrases.specs.Answers.{counted}
use Rattle.ada_phrases.specs.Scopes.{step_of, text_depth}
use Rattle.program_walk.specs.declared.symbols.Symbols.{Symbols}
use Rattle.program_walk.specs.declared.site.Site.{Site}
use Rattle.program_walk.specs.SymbolViews.{Begins, IsKnown}

-- The text of a package stands directly inside what its unit sees of the library: declarations of the library level
-- stand in it, and others deeper.
abbrev pub IsAtDepth : (is_library : Bool) → ℕ → Type 0
IsAtDepth true n = n ≡ 2
IsAtDepth false n = 2 < n

-- the package in whose text a construct stands, and what it has declared so far
pub record IsInText (own : ℕ) (rs : List (List (List ℕ × Entity))) (k : Tables) (env : Env) : Type 0 where
  pub package_number : env.own_package ≡ Some own
  pub depth : IsAtDepth env.is_library (length rs)
  pub text : env.own ≡ region_of k (region_at text_depth rs)

abbrev pub StandsInText : Option ℕ → List (List (List ℕ × Entity)) → Tables → Env → Type 0
StandsInText None rs k env = env.own_package ≡ None
StandsInText (Some own) rs k env = IsInText own rs k env

-- A world that has the units of a symbol table, where its numbers lead to this: to what is there so far, and to what
-- may come. Instances have this for the formals of their generics, of which the table keeps the types.
pub record HoldsUnits (symbols : Symbols) (k : Tables) (w : World) : Type 0 where
  pub known : IsKnown symbols
  pub begins : Begins symbols k
  pub actuals : ℕ → List Actual
  pub given_types : (n : ℕ) → GiveSame (actuals n) (actuals_of k.types n)
  pub interfaces : w.interfaces ≡ map (interface_of k actuals) symbols.units
  pub standard : w.standard ≡ whole_standard

-- an environment that has its regions too, of which at least one is open
pub record Holds (now : Step) (own : Option ℕ) (symbols : Symbols) (k : Tables) (env : Env) : Type 0 where
  pub units : HoldsUnits symbols k env.world
  pub step : env.step ≡ step_of now
  pub inside : 0 < length symbols.regions
  pub regions : regions_of env ≡ in_standard k symbols.regions
  pub text : StandsInText own symbols.regions k env

abbrev pub StandsAt : Site → Tables → Env → Type 0
StandsAt site k env = Holds site.step site.own_package site.symbols.now k env

-- A construct that is looked at there, from these decisions to those, comes to what the rules say, whatever tables begin
-- with what the symbols keep.
abbrev pub ComesTo : {A B : Type 0} → (Tables → A → B) → Site → (old new : Decisions)
    → (Env → State → Result (Given B) Pos) → Result A (Failure Refusal) → Type 0
ComesTo view site old new answer result =
    (k : Tables) (env : Env) (s : State) → StandsAt site k env
    → Answers (λ x. given (view k x) (counted new s)) (answer env (counted old s)) result

-- what a name denotes there (RM 8.3)
abbrev pub IsVisibleAt : Site → List ℕ → Option Entity → Type 0
IsVisibleAt site name x =
    (k : Tables) (env : Env) → StandsAt site k env → option_map (entity_of k) x ≡ visible name (regions_of env)
