-- The conditions so far, and those of the decisions that are left, are all.
use Rattle.std.proofs.Common.{◌≡◌, ◌+◌, drop, length}
use Rattle.std.specs.Prelude.{sum_by}
use Rattle.commands.proofs.ready.compiled.condition_count.Given as goal

abbrev pub invariant-loop-decision : goal.invariant-loop-decision
invariant-loop-decision l = l.count + sum_by (λ d. length d.conditions) (drop l.decision-index l.decisions) ≡ sum_by (λ d. length d.conditions) l.decisions
