-- The head of a body in a package: what it completes or declares, its specification, and the region of its parameters.
use Rattle.std.specs.Prelude.{◌≡◌, ◌<◌, length, ◌∷◌, Result, Ok, Err}
use Rattle.cov_base.specs.declared.failure.Failure.{Failure}
use Rattle.ada_syntax.specs.declared.name.Identifier.{Identifier}
use Rattle.ada_syntax.specs.declared.unit.SubprogramBody.{SubprogramBody}
use Rattle.ada_rules.specs.Entities.{key, Region}
use Rattle.ada_rules.specs.Environment.{State, given, Env, with_local}
use Rattle.ada_rules.specs.Subprograms as rules
use Rattle.ada_rules.specs.Subprograms.{fresh, completed, specified, conforming, with_routine, inside_body}
use Rattle.ada_rules.specs.Subprograms.{packaged_body}
use Rattle.ada_entities.specs.Answers.{Refuses}
use Rattle.ada_entities.specs.declared.fault.Refusal.{Refusal}
use Rattle.ada_entities.specs.EntityViews.{Tables, region_of}
use Rattle.ada_entities.specs.RegionCode.{innermost, enclosing}
use Rattle.program_walk.specs.declared.symbols.Symbols.{Symbols}
use Rattle.program_walk.specs.SymbolViews as symbols
use Rattle.program_walk.specs.SymbolViews.{IsKnown}
use Rattle.program_walk.specs.Changes.{Becomes, Reopens}
use Rattle.specifications.specs.declared.conformance.Profile.{Profile}
use Rattle.specifications.specs.Profiles.{profile_of}
use Rattle.program_walk.specs.declared.context.Context.{Context}
use Rattle.program_walk.specs.declared.walk.Walk.{Walk}
use Rattle.program_walk.specs.States.{state_of}
use Rattle.program_walk.specs.Walks.{HasLibrary, Begins, StandsAt}
use Rattle.specifications.specs.declared.typed.Head.{Head}
use Rattle.specifications.specs.Contexts.{IsBodyContext}
use Rattle.specifications.specs.Typed.{HasHead}

-- The name of a body denotes it in the region round that of its parameters, which is open again inside. `round` is what
-- is declared before it opens again.
pub record EntersBody (c : Context) (old new : Symbols) (i : Identifier) (q : Profile) : Type 0 where
  pub round : Symbols
  pub named : Becomes old round (innermost round.regions ∷ enclosing (enclosing old.regions)) old.units
  pub denotes : (k : Tables) (env : Env) (region : Region) → symbols.Begins round k → env.generic ≡ c.generic
      → HasLibrary c.library.now env.world → env.unit_name ≡ c.unit_name.now
      → region_of k (innermost round.regions)
      ≡ with_routine env (region_of k (innermost (enclosing old.regions))) i (profile_of k region q)
  pub opened : Reopens round new (innermost old.regions)

-- where a region is open round that of the parameters
abbrev pub Reenters : Context → (old new : Symbols) → Identifier → Profile → Type 0
Reenters c old new i q = IsKnown old → 0 < length (enclosing old.regions) → EntersBody c old new i q

-- what the rules find of the head, and where the walk stands behind it
pub record IsPackaged (c : Context) (old new : Walk) (b : SubprogramBody) (h : Head) (k : Tables) (env : Env) : Type 0
  where
    pub region : Region
    pub profile : rules.Profile
    pub is_completed : (completed env.local b.specification.name).answer ≡ Ok region
    pub is_specified : (specified (with_local env region) (state_of k old) b.specification).answer
        ≡ Ok (given profile (state_of k new))
    pub is_conforming : (conforming b.specification.pos region b.specification.name profile).answer ≡ Ok tt
    pub head : HasHead k h profile.parameters profile.result
    pub outside : region_of k (innermost (enclosing new.symbols.regions))
        ≡ with_routine env region b.specification.name profile
    pub stands : (d : Context) → IsBodyContext c (key b.specification.name) h.returning d
        → StandsAt d new k
        (inside_body env (with_routine env region b.specification.name profile) (key b.specification.name) profile)

-- It is refused where the rules refuse it, whatever is counted of the subprogram round it.
abbrev pub HasPackaged : Context → (old new : Walk) → SubprogramBody → Result Head (Failure Refusal) → Tables → Env
    → Type 0
HasPackaged c old new b (Ok h) k env = IsPackaged c old new b h k env
HasPackaged c old new b (Err f) k env =
    (before : State) → fresh before ≡ fresh (state_of k old) → Refuses (packaged_body env before b).answer f

abbrev pub ComesToHead : Context → (old new : Walk) → SubprogramBody → Result Head (Failure Refusal) → Type 0
ComesToHead c old new b result =
    (k : Tables) (env : Env) → StandsAt c old k env → Begins new k → HasPackaged c old new b result k env
