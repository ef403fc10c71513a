use Rattle.std.proofs.Common.{◌≡◌, ◌≤◌, ◌++◌, length, drop}
use Rattle.annotated_report.specs.Marked.{collected}
use Rattle.annotated_report.specs.Numbered.{each_numbered}
use Rattle.xcov_report.specs.Obliged.{decision_stretches, decisions_stretches}
use Rattle.xcov_report.proofs.obligations.tell_decisions.Given as goal

-- what was told so far, and what is left to tell
abbrev pub invariant-loop-number : goal.invariant-loop-number
invariant-loop-number l = record {
  within : l.number ≤ length l.decisions;
  told : l.stretches.items
      ++ each_numbered (λ d entry. decision_stretches l.level (collected l.evaluations d) entry) l.number (drop l.number l.decisions)
      ≡ l.fn.stretches.items ++ decisions_stretches l.level (collected l.evaluations) l.decisions;
}
