-- Formals of generics, as the walk goes on.
use Rattle.std.specs.Prelude.{◌≡◌, ℕ, Some, Result}
use Rattle.cov_base.specs.declared.position.Pos.{Pos}
use Rattle.cov_base.specs.declared.failure.Failure.{Failure}
use Rattle.ada_syntax.specs.Tree.{Name}
use Rattle.ada_syntax.specs.declared.name.Identifier.{Identifier}
use Rattle.ada_meaning.specs.Types.{static_formal}
use Rattle.ada_rules.specs.Plan.{Plan, ◌>>=◌, rule, answer_at}
use Rattle.ada_rules.specs.Entities.{key, formal_object, Region, redefined}
use Rattle.ada_rules.specs.Environment.{State, Given, given, Env, with_local, hide}
use Rattle.ada_rules.specs.Expressions.{Marked, scalar_mark}
use Rattle.ada_rules.specs.Instances.{formal_routine}
use Rattle.ada_entities.specs.declared.fault.Refusal.{Refusal}
use Rattle.ada_entities.specs.EntityViews.{Tables, region_of}
use Rattle.ada_entities.specs.RegionCode.{innermost}
use Rattle.program_walk.specs.declared.symbols.Symbols.{Symbols}
use Rattle.program_walk.specs.SymbolViews as symbols
use Rattle.specifications.specs.declared.conformance.Profile.{Profile}
use Rattle.specifications.specs.Profiles.{profile_of}
use Rattle.program_walk.specs.declared.context.Context.{Context}
use Rattle.program_walk.specs.declared.walk.Walk.{Walk}
use Rattle.specifications.specs.Routines.{ComesToRegion}

-- a formal object, whose mode is `in` (RM 12.4)
abbrev pub object_there : ℕ → Identifier → Region → Given Marked → Plan (Given Region)
object_there n i region t =
    rule (Some (given (redefined (key i) (formal_object t.value.subtype (static_formal n)) region) t.next))

abbrev pub object_declared : Env → State → ℕ → Identifier → Name → Plan (Given Region)
object_declared env s n i mark =
    hide env.local i >>= (λ region. scalar_mark (with_local env region) s mark >>= object_there n i region)

-- a formal, wherever its text begins
abbrev pub ComesToFormal : {A : Type 0} → Context → (old new : Walk) → (Env → State → Plan (Given Region))
    → Result A (Failure Refusal) → Type 0
ComesToFormal c old new plan result =
    (p : Pos) → ComesToRegion c old new (λ k env s. answer_at p (plan env s).outcome) result

-- a name denotes the formal subprogram with this profile, wherever its parameters were declared (RM 12.6)
abbrev pub AddsFormal : (old new : Symbols) → Identifier → Profile → ℕ → Type 0
AddsFormal old new i q n =
    (k : Tables) (region : Region) → symbols.Begins new k
    → region_of k (innermost new.regions)
    ≡ redefined (key i) (formal_routine n (profile_of k region q)) (region_of k (innermost old.regions))
