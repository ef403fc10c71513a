-- What is left of the declarations comes to what all of them come to, where the walk stands.
use Rattle.std.proofs.Common.{drop}
use Rattle.ada_rules.specs.Environment.{Env}
use Rattle.ada_entities.specs.EntityViews.{Tables}
use Rattle.program_walk.specs.Walks.{Begins, StandsAt}
use Rattle.program_walk.specs.Going.{GoesInside, IsWalkOpen}
use Rattle.declarations.proofs.AllWalks.{Reaches}
use Rattle.declarations.proofs.kinds.all_declared.Given as goal

abbrev pub invariant-loop-declaration : goal.invariant-loop-declaration
invariant-loop-declaration l = record {
  rest : (k : Tables) (env : Env) → StandsAt l.fn.context l.fn.walk k env → Begins l.walk k
      → Reaches l.fn.context l.fn.walk l.walk k env l.fn.declarations (drop l.declaration-index l.fn.declarations) l.made.items;
  inside : IsWalkOpen l.fn.walk → GoesInside l.fn.walk l.walk;
}
