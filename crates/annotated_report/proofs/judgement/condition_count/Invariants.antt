use Rattle.std.proofs.Common.{◌≡◌, ◌≤◌, ◌+◌, ◌*◌, ◌^◌, length, drop}
use Rattle.annotated_report.specs.Shown.{condition_count}
use Rattle.annotated_report.proofs.judgement.condition_count.Given as goal

-- the conditions so far, and those of the decisions that are left
abbrev pub invariant-loop-entry : goal.invariant-loop-entry
invariant-loop-entry l = record {
  within : l.entry-index ≤ length l.decisions;
  small : l.count ≤ 2 ^ 64 * l.entry-index;
  whole : l.count + condition_count (drop l.entry-index l.decisions) ≡ condition_count l.decisions;
}
