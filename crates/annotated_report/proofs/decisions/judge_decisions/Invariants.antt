use Rattle.std.proofs.Common.{◌≡◌, ◌≤◌, ◌+◌, ◌++◌, length, drop}
use Rattle.annotated_report.specs.Findings.{expr_of, findings_of, unsatisfied, one_if, covered_count}
use Rattle.annotated_report.specs.Marked.{marked, collected}
use Rattle.annotated_report.specs.Numbered.{each_numbered, sum_numbered}
use Rattle.annotated_report.specs.Shown.{asked_pairs, all_paired}
use Rattle.annotated_report.specs.Verdicts.{is_covered}
use Rattle.annotated_report.proofs.decisions.judge_decisions.Given as goal

-- what was found so far and what is left to find are all
abbrev pub invariant-loop-number : goal.invariant-loop-number
invariant-loop-number l =
    let started = marked l.started in
    let vectors = collected l.evaluations in
    record {
      within : l.number ≤ length l.decisions;
      few : l.covered ≤ l.number;
      findings : l.found.findings.items
          ++ each_numbered (λ d entry. findings_of l.level (started entry.statement.0) (vectors d) d entry) l.number (drop l.number l.decisions)
          ≡ l.fn.found.findings.items ++ unsatisfied l.level started vectors l.decisions;
      pairs : l.found.pairs.items ++ each_numbered (λ d entry. asked_pairs l.level (vectors d) d entry) l.number (drop l.number l.decisions)
          ≡ l.fn.found.pairs.items ++ all_paired l.level vectors l.decisions;
      covered : l.covered + sum_numbered (λ d entry. one_if (is_covered (expr_of entry) (vectors d))) l.number (drop l.number l.decisions)
          ≡ covered_count vectors l.decisions;
    }
