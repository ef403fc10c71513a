use Rattle.std.proofs.Common.{◌≡◌, ◌++◌, map, drop}
use Rattle.coverage_set.proofs.consolidated.runs_in.Given as goal

abbrev pub invariant-loop-at : goal.invariant-loop-at
invariant-loop-at l = l.runs.items ++ map (λ d. d) (drop l.at l.fn.view.runs) ≡ map (λ d. d) l.fn.view.runs
