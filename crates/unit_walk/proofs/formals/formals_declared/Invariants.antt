-- What is left of the formals, behind those that were declared, comes to what all of them come to, where the walk stands.
use Rattle.std.proofs.Common.{drop}
use Rattle.ada_rules.specs.Environment.{Env}
use Rattle.ada_entities.specs.EntityViews.{Tables}
use Rattle.program_walk.specs.Walks.{Begins, StandsAt}
use Rattle.program_walk.specs.Going.{GoesInside, IsWalkOpen}
use Rattle.unit_walk.proofs.FormalWalks.{Reaches}
use Rattle.unit_walk.proofs.formals.formals_declared.Given as goal

abbrev pub invariant-loop-formal : goal.invariant-loop-formal
invariant-loop-formal l = record {
  rest : (k : Tables) (env : Env) → StandsAt l.fn.context l.fn.walk k env → Begins l.walk k
      → Reaches l.fn.context l.fn.walk l.walk k env l.fn.formals (drop l.formal-index l.fn.formals) l.place;
  inside : IsWalkOpen l.fn.walk → GoesInside l.fn.walk l.walk;
}
