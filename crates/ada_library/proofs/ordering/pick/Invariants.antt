-- The first that is ready is one of those that are left, behind those that are not.
use Rattle.std.proofs.Common.{◌≡◌, ℕ, List, take, drop, option_map}
use Rattle.ada_rules.specs.Library.{picked}
use Rattle.ada_library.specs.Marking.{AreMarked}
use Rattle.ada_library.proofs.OrderLaws.{behind}
use Rattle.ada_library.proofs.ordering.pick.Given as goal

abbrev pub invariant-loop-index : goal.invariant-loop-index
invariant-loop-index l = record {
  kept : l.rest ≡ l.fn.rest;
  first : (order : List ℕ) → AreMarked order l.done
      → picked l.graph order l.fn.rest.items ≡ option_map (behind (take l.index l.fn.rest.items)) (picked l.graph order (drop l.index l.fn.rest.items));
}
