use Rattle.std.proofs.Common.{◌≡◌}
use Rattle.layer_cases.proofs.runs.join_traces.Given as goal

-- what is covered so far is of the object
abbrev pub invariant-loop-name : goal.invariant-loop-name
invariant-loop-name l = l.all.object ≡ l.fn.object
