-- The instances have the values of the facts so far.
use Rattle.std.proofs.Common.{◌≡◌, map, take}
use Rattle.ada_rules.specs.Legal.{with_values}
use Rattle.ada_tree.specs.Programs.{instance_of}
use Rattle.ada_demands.specs.FactViews.{facts_of}
use Rattle.typed_program.proofs.instances.set_all_values.Given as goal

abbrev pub invariant-loop-index : goal.invariant-loop-index
invariant-loop-index l =
    map instance_of l.instances.items ≡ with_values (map instance_of l.fn.instances.items) (map facts_of (take l.index l.facts))
