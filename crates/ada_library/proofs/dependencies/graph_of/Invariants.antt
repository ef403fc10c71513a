-- The units so far have their rows.
use Rattle.std.proofs.Common.{◌≡◌, take}
use Rattle.ada_rules.specs.Library.{graph_of}
use Rattle.ada_library.proofs.dependencies.graph_of.Given as goal

abbrev pub invariant-loop-unit : goal.invariant-loop-unit
invariant-loop-unit l = l.graph.items ≡ graph_of l.names (take l.unit-index l.units)
