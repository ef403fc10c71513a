use Rattle.coverage_set.specs.Consolidated.{IsPossible, AreBefore}
use Rattle.coverage_set.proofs.consolidated.first_impossible.Given as goal

abbrev pub invariant-loop-at : goal.invariant-loop-at
invariant-loop-at l = AreBefore (IsPossible l.fn.map) l.fn.view.vectors l.at
