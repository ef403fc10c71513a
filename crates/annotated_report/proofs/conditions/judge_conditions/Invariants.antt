use Rattle.std.proofs.Common.{◌≡◌, ◌≤◌, ◌++◌, length, drop}
use Rattle.annotated_report.specs.Findings.{finding_of_condition, unpaired}
use Rattle.annotated_report.specs.Numbered.{each_numbered}
use Rattle.annotated_report.specs.Shown.{line_of_condition, paired}
use Rattle.annotated_report.proofs.conditions.judge_conditions.Given as goal

-- what was found so far and what is left to find are all
abbrev pub invariant-loop-c : goal.invariant-loop-c
invariant-loop-c l = record {
  within : l.c ≤ length l.entry.conditions;
  findings : l.found.findings.items ++ each_numbered (finding_of_condition l.level l.vectors l.number l.entry) l.c (drop l.c l.entry.conditions)
      ≡ l.fn.found.findings.items ++ unpaired l.level l.vectors l.number l.entry;
  pairs : l.found.pairs.items ++ each_numbered (line_of_condition l.level l.vectors l.number l.entry) l.c (drop l.c l.entry.conditions)
      ≡ l.fn.found.pairs.items ++ paired l.level l.vectors l.number l.entry;
}
