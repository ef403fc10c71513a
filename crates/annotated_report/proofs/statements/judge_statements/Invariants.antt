use Rattle.std.proofs.Common.{◌≡◌, ◌++◌, ◌+◌, ◌≤◌, length, drop}
use Rattle.annotated_report.specs.Findings.{statement_finding, one_if, unstarted, started_count}
use Rattle.annotated_report.specs.Numbered.{each_numbered, sum_numbered}
use Rattle.annotated_report.specs.Marked.{marked}
use Rattle.annotated_report.proofs.statements.judge_statements.Given as goal

-- what was found so far and what is left to find are all
abbrev pub invariant-loop-number : goal.invariant-loop-number
invariant-loop-number l = record {
  within : l.number ≤ length l.statements;
  few : l.covered ≤ l.number;
  findings : l.findings.items ++ each_numbered (λ n entry. statement_finding (marked l.started n) n entry) l.number (drop l.number l.statements)
      ≡ l.fn.findings.items ++ unstarted (marked l.started) l.statements;
  covered : l.covered + sum_numbered (λ n entry. one_if (marked l.started n)) l.number (drop l.number l.statements)
      ≡ started_count (marked l.started) l.statements;
}
