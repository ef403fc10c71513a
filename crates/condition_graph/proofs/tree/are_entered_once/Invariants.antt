use Rattle.std.proofs.Common.{◌≡◌, map, drop}
use Rattle.condition_graph.specs.Entry.{all_first}
use Rattle.condition_graph.specs.Target.{edges_of}
use Rattle.condition_graph.proofs.tree.are_entered_once.Given as goal

-- the edges of the nodes before `number` are the first ones that lead to their nodes
abbrev pub invariant-loop-number : goal.invariant-loop-number
invariant-loop-number l =
    all_first (map edges_of l.nodes) l.number (map edges_of (drop l.number l.nodes))
    ≡ all_first (map edges_of l.nodes) 0 (map edges_of l.nodes)
