-- What is left of the items, behind those that were looked at, comes to what all of them come to, where the walk stands.
use Rattle.std.proofs.Common.{drop}
use Rattle.ada_rules.specs.Environment.{Env}
use Rattle.ada_rules.specs.Units.{package_items}
use Rattle.ada_entities.specs.EntityViews.{Tables}
use Rattle.program_walk.specs.Walks.{Begins, StandsAt}
use Rattle.program_walk.specs.Going.{IsWalkOpen}
use Rattle.program_walk.specs.Going.{GoesInside}
use Rattle.unit_interfaces.proofs.ItemLaws.{Reaches}
use Rattle.unit_interfaces.proofs.items.package_items.Given as goal

abbrev pub invariant-loop-item : goal.invariant-loop-item
invariant-loop-item l = record {
  rest : (k : Tables) (env : Env) → StandsAt l.fn.context l.fn.walk k env → Begins l.walk k
      → Reaches package_items l.fn.context l.fn.walk l.walk k env l.fn.items (drop l.item-index l.fn.items);
  inside : IsWalkOpen l.fn.walk → GoesInside l.fn.walk l.walk;
}
