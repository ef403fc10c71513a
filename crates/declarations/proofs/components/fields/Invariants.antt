-- What is left of the components, behind those that were added, comes to what all of them come to, where the walk stands.
use Rattle.std.proofs.Common.{drop}
use Rattle.ada_rules.specs.Environment.{Env}
use Rattle.ada_entities.specs.EntityViews.{Tables}
use Rattle.program_walk.specs.Walks.{Begins, StandsAt}
use Rattle.program_walk.specs.Going.{GoesInside, IsWalkOpen}
use Rattle.declarations.proofs.FieldWalks.{Reaches}
use Rattle.declarations.proofs.components.fields.Given as goal

abbrev pub invariant-loop-component : goal.invariant-loop-component
invariant-loop-component l = record {
  rest : (k : Tables) (env : Env) → StandsAt l.fn.context l.fn.walk k env → Begins l.walk k
      → Reaches l.fn.context l.fn.walk l.walk k env l.fn.components (drop l.component-index l.fn.components) l.fields.items;
  inside : IsWalkOpen l.fn.walk → GoesInside l.fn.walk l.walk;
}
