use Rattle.std.proofs.Common.{◌≡◌, drop, None}
use Rattle.spelling.specs.Checks.{first_failing}
use Rattle.spelling.proofs.check.first_failing_at.Given as goal

abbrev pub invariant-loop-at : goal.invariant-loop-at
invariant-loop-at g l = first_failing g.C.Check.passes l.before l.at (drop l.at l.entries) ≡ first_failing g.C.Check.passes None 0 l.entries
