use Rattle.std.proofs.Common.{◌≡◌, map, drop}
use Rattle.cov_base.specs.Marks.{bit}
use Rattle.cov_base.specs.Path.{walked_from, walked}
use Rattle.condition_graph.specs.Target.{edges_of, place_of}
use Rattle.condition_graph.proofs.walk.end_of_walk.Given as goal

-- the nodes from `number` on are still to be passed
abbrev pub invariant-loop-number : goal.invariant-loop-number
invariant-loop-number l =
    walked_from l.number (map edges_of (drop l.number l.nodes)) (bit l.value) (place_of l.at) ≡ walked (map edges_of l.nodes) (bit l.value)
