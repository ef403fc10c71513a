use Rattle.std.proofs.Common.{◌≡◌, map, drop}
use Rattle.condition_graph.specs.Entry.{entry_from}
use Rattle.condition_graph.specs.Target.{edges_of}
use Rattle.condition_graph.proofs.tree.entry.Given as goal

-- no edge of the nodes before `number` leads there
abbrev pub invariant-loop-number : goal.invariant-loop-number
invariant-loop-number l =
    entry_from l.number (map edges_of (drop l.number l.nodes)) l.to.0 ≡ entry_from 0 (map edges_of l.nodes) l.to.0
