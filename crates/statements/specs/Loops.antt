-- For loops, as the walk begins them.
use Rattle.std.specs.Prelude.{ℕ, [], ◌∷◌, Some}
use Rattle.cov_base.specs.declared.position.Pos.{Pos}
use Rattle.ada_syntax.specs.declared.declaration.DiscreteRange.{DiscreteRange}
use Rattle.ada_syntax.specs.declared.name.Identifier.{Identifier}
use Rattle.ada_rules.specs.Plan.{Plan, ◌>>=◌, rule}
use Rattle.ada_rules.specs.Entities.{key}
use Rattle.ada_rules.specs.Environment.{State, Given, given, Env, hide, with_local, opened, in_loop}
use Rattle.ada_rules.specs.Statements.{Turns, turned, one_object_more, loop_parameter}

-- the number of a loop's parameter, and its values
pub record Begun : Type 0 where
  pub parameter : ℕ
  pub turns : Turns

-- the beginning of a for loop, up to its statements
abbrev pub begun_plan : Env → State → Pos → Identifier → DiscreteRange → Plan (Given Begun)
begun_plan env s p i r = do
  region ← hide [] i
  t ← turned (with_local (opened env) region) s r
  rule (Some (given (record { parameter = t.next.objects; turns = t.value })
      (one_object_more p t.value.subtype t.next)))

-- where its statements stand
abbrev pub in_turn : Env → Identifier → Begun → Env
in_turn env i b = in_loop (with_local (opened env) ((key i, loop_parameter b.parameter b.turns) ∷ []))
