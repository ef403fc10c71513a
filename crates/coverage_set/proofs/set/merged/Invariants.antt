use Rattle.std.proofs.Common.{◌≡◌, ◌++◌, ◌+◌, length, true}
use Rattle.std.specs.Set.{sorted_merge}
use Rattle.coverage_set.proofs.set.merged.Given as goal

abbrev pub invariant-loop-item : goal.invariant-loop-item
invariant-loop-item g l = l.items.items ++ sorted_merge g.T.Ord.cmp true l.first l.second ≡ sorted_merge g.T.Ord.cmp true l.left l.right

abbrev pub decreases-loop-item : goal.decreases-loop-item
decreases-loop-item g l = length l.first + length l.second
