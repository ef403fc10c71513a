use Rattle.coverage_set.specs.Consolidated.{HasRow, AreBefore}
use Rattle.coverage_set.proofs.consolidated.first_without_row.Given as goal

abbrev pub invariant-loop-at : goal.invariant-loop-at
invariant-loop-at l = AreBefore (HasRow l.fn.object) l.fn.view.starts l.at
