use Rattle.std.proofs.Common.{◌≡◌, ◌≤◌, ◌++◌, length, drop}
use Rattle.annotated_report.specs.Numbered.{each_numbered}
use Rattle.xcov_report.specs.Obliged.{condition_stretches, conditions_stretches}
use Rattle.xcov_report.proofs.obligations.tell_conditions.Given as goal

-- what was told so far, and what is left to tell
abbrev pub invariant-loop-c : goal.invariant-loop-c
invariant-loop-c l = record {
  within : l.c ≤ length l.entry.conditions;
  told : l.stretches.items ++ each_numbered (condition_stretches l.level l.vectors l.entry) l.c (drop l.c l.entry.conditions)
      ≡ l.fn.stretches.items ++ conditions_stretches l.level l.vectors l.entry;
}
