-- The generic that an instance names.
use Rattle.std.specs.Prelude.{◌≡◌, ℕ, Option, Result}
use Rattle.cov_base.specs.declared.failure.Failure.{Failure}
use Rattle.cov_base.specs.declared.position.Pos.{Pos}
use Rattle.ada_syntax.specs.declared.name.Identifier.{Identifier}
use Rattle.ada_rules.specs.Environment.{World, Env}
use Rattle.ada_rules.specs.Instances as rules
use Rattle.ada_rules.specs.Plan.{ruled, answer_at}
use Rattle.ada_entities.specs.declared.entity.Entity.{Entity}
use Rattle.ada_entities.specs.declared.fault.Refusal.{Refusal}
use Rattle.ada_entities.specs.Answers.{Answers}
use Rattle.ada_entities.specs.EntityViews.{Tables, entity_of}
use Rattle.ada_phrases.specs.declared.scope.Step.{Step}
use Rattle.ada_phrases.specs.Scopes.{step_of}
use Rattle.program_walk.specs.declared.symbols.Symbols.{Symbols}
use Rattle.program_walk.specs.declared.site.Site.{Site}
use Rattle.program_walk.specs.Sites.{HoldsUnits, StandsAt}

-- the number of a unit, as it is
abbrev pub itself : Option ℕ → Option ℕ
itself g = g

abbrev pub IsGenericOf : Symbols → Entity → Option ℕ → Type 0
IsGenericOf symbols x g = (k : Tables) (w : World) → HoldsUnits symbols k w → g ≡ rules.generic_of w (entity_of k x)

abbrev pub IsGeneric : Step → Pos → Option ℕ → Result (Option ℕ) (Failure Refusal) → Type 0
IsGeneric step p g result =
    (env : Env) → env.step ≡ step_of step → Answers itself (answer_at p (ruled (rules.generic_or_any env g))) result

abbrev pub IsGenericNamed : Site → Identifier → Result (Option ℕ) (Failure Refusal) → Type 0
IsGenericNamed site i result =
    (k : Tables) (env : Env) → StandsAt site k env → Answers itself (rules.generic_named env i).answer result
