-- What is left of the items, behind those that were looked at, comes to what all of them come to, where the walk stands.
use Rattle.std.proofs.Common.{drop}
use Rattle.ada_rules.specs.Environment.{Env}
use Rattle.ada_rules.specs.Units.{body_items}
use Rattle.ada_entities.specs.EntityViews.{Tables}
use Rattle.program_walk.specs.Walks.{Begins, StandsAt}
use Rattle.unit_interfaces.specs.specifications.specs.Going.{IsSound, Advances}
use Rattle.unit_interfaces.proofs.ItemLaws.{Reaches}
use Rattle.library_units.proofs.items.body_items.Given as goal

abbrev pub invariant-loop-item : goal.invariant-loop-item
invariant-loop-item l = record {
  rest : (k : Tables) (env : Env) → StandsAt l.fn.context l.fn.walk k env → Begins l.walk k
      → Reaches body_items l.fn.context l.fn.walk l.walk k env l.fn.items (drop l.item-index l.fn.items);
  inside : IsSound l.fn.walk → Advances l.fn.walk l.walk;
}
