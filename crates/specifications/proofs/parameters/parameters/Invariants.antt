-- What is left of the parameters, behind those that were added, comes to what all of them come to, where the walk stands.
use Rattle.std.proofs.Common.{drop}
use Rattle.ada_rules.specs.Environment.{Env}
use Rattle.ada_entities.specs.EntityViews.{Tables}
use Rattle.program_walk.specs.Walks.{Begins, StandsAt}
use Rattle.program_walk.specs.Going.{GoesInside, IsWalkOpen}
use Rattle.specifications.proofs.ParameterWalks.{Reaches}
use Rattle.specifications.proofs.parameters.parameters.Given as goal

abbrev pub invariant-loop-group : goal.invariant-loop-group
invariant-loop-group l = record {
  rest : (k : Tables) (env : Env) → StandsAt l.fn.context l.fn.walk k env → Begins l.walk k
      → Reaches l.fn.context l.fn.walk l.walk k env l.fn.groups (drop l.group-index l.fn.groups) l.parameters.items;
  inside : IsWalkOpen l.fn.walk → GoesInside l.fn.walk l.walk;
}
