-- What stands in packages and in their bodies, as the walk goes on.
use Rattle.std.specs.Prelude.{Result}
use Rattle.cov_base.specs.declared.position.Pos.{Pos}
use Rattle.cov_base.specs.declared.failure.Failure.{Failure}
use Rattle.ada_rules.specs.Plan.{Plan, answer_at}
use Rattle.ada_rules.specs.Entities.{Region}
use Rattle.ada_rules.specs.Environment.{State, Given, Env}
use Rattle.ada_entities.specs.declared.fault.Refusal.{Refusal}
use Rattle.program_walk.specs.declared.context.Context.{Context}
use Rattle.program_walk.specs.declared.walk.Walk.{Walk}
use Rattle.unit_walk.specs.specifications.specs.Routines.{ComesToRegion}

-- an item, wherever the list of items begins
abbrev pub ComesToItem : {A : Type 0} → Context → (old new : Walk) → (Env → State → Plan (Given Region))
    → Result A (Failure Refusal) → Type 0
ComesToItem c old new plan result =
    (p : Pos) → ComesToRegion c old new (λ k env s. answer_at p (plan env s).outcome) result
