use Rattle.std.proofs.Common.{◌≡◌, ◌++◌, drop}
use Rattle.coverage_set.specs.Consolidated.{decided_by, decided_in}
use Rattle.coverage_set.proofs.consolidated.decided_in.Given as goal

abbrev pub invariant-loop-role : goal.invariant-loop-role
invariant-loop-role l = l.decided.items ++ decided_by (drop l.role-index l.role-items) ≡ decided_in l.fn.object
