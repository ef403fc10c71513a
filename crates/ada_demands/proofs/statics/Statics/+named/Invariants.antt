use Rattle.std.proofs.Common.{◌≡◌, drop}
use Rattle.ada_judged.specs.StaticView.{static_size}
use Rattle.ada_tree.specs.View.{static_value_of}
use Rattle.ada_rules.specs.Environment.{State, given}
use Rattle.ada_judged.specs.ada_entities.specs.EntityViews.{Tables}
use Rattle.ada_demands.specs.StaticsViews.{noted, chain_named}
use Rattle.ada_demands.proofs.TreeLaws.{operands_size}
use Rattle.ada_demands.proofs.statics.Statics.+named.Given as goal

abbrev pub decreases-value_named : goal.decreases-value_named
decreases-value_named l = static_size l.tree.now

abbrev pub decreases-chain_named : goal.decreases-chain_named
decreases-chain_named l = operands_size l.others.now

-- what is called by its name so far, and the operators that are left, are the whole
abbrev pub invariant-chain_named-loop-other : goal.invariant-chain_named-loop-other
invariant-chain_named-loop-other l =
    (k : Tables) (s : State)
    → chain_named l.generic (given (static_value_of l.value) (noted k l.self s)) (drop l.other-index l.others)
    ≡ chain_named l.generic (given (static_value_of l.fn.first) (noted k l.fn.self s)) l.others
