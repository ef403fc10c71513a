use Rattle.std.proofs.Common.{◌≡◌, take}
use Rattle.layer_cases.proofs.consolidated.starts_of.Given as goal

-- those before the place
abbrev pub invariant-loop-at : goal.invariant-loop-at
invariant-loop-at l = l.starts.items ≡ take l.at l.fn.view.starts
