use Rattle.std.proofs.Common.{◌≡◌, ◌≤◌, ◌++◌, [], ◌∷◌, length, drop}
use Rattle.annotated_report.specs.Marked.{marked}
use Rattle.annotated_report.specs.Numbered.{each_numbered}
use Rattle.xcov_report.specs.Obliged.{of_line, statement_stretches}
use Rattle.xcov_report.proofs.obligations.tell_statements.Given as goal

-- what was told so far, and what is left to tell
abbrev pub invariant-loop-number : goal.invariant-loop-number
invariant-loop-number l = record {
  within : l.number ≤ length l.statements;
  told : l.stretches.items
      ++ each_numbered (λ n entry. of_line entry.file entry.line (marked l.started n) ∷ []) l.number (drop l.number l.statements)
      ≡ l.fn.stretches.items ++ statement_stretches (marked l.started) l.statements;
}
