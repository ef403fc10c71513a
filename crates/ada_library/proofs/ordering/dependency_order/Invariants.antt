-- Those that are left are put behind the order so far, whose units are marked.
use Rattle.std.proofs.Common.{◌≡◌, length}
use Rattle.ada_rules.specs.Library.{ordered_from, dependency_order}
use Rattle.ada_library.specs.Marking.{AreMarked}
use Rattle.ada_library.proofs.ordering.dependency_order.Given as goal

abbrev pub invariant-loop-unit : goal.invariant-loop-unit
invariant-loop-unit l = record {
  ordered : ordered_from l.graph (length l.rest.items) l.order.items l.rest.items ≡ dependency_order l.graph l.fn.rest.items;
  marked : AreMarked l.order.items l.done;
}

abbrev pub decreases-loop-unit : goal.decreases-loop-unit
decreases-loop-unit l = length l.rest.items
