use Rattle.std.proofs.Common.{◌≡◌, drop}
use Rattle.ada_judged.specs.StaticView.{static_size}
use Rattle.ada_demands.specs.TreeValues.{operated}
use Rattle.ada_demands.proofs.TreeLaws.{operands_size}
use Rattle.ada_demands.proofs.facts.Instances.+trees.Given as goal

abbrev pub decreases-tree : goal.decreases-tree
decreases-tree l = static_size l.tree.now

abbrev pub decreases-chain : goal.decreases-chain
decreases-chain l = operands_size l.others.now

-- the value so far, and the operators that are left, are the whole
abbrev pub invariant-chain-loop-other : goal.invariant-chain-loop-other
invariant-chain-loop-other l =
    operated l.self l.instance l.value (drop l.other-index l.others) ≡ operated l.self l.instance l.fn.first l.others
