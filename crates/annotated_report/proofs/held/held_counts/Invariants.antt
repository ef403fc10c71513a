use Rattle.std.proofs.Common.{◌≡◌, ◌≤◌, ℕ, length, drop, slice_index_or}
use Rattle.annotated_report.specs.Held.{held_counts}
use Rattle.annotated_report.proofs.Holding.{all_counted}
use Rattle.annotated_report.proofs.held.held_counts.Given as goal

-- the counts of those so far, and the findings that are left; none is counted more often than there were findings
abbrev pub invariant-loop-finding : goal.invariant-loop-finding
invariant-loop-finding l = record {
  within : l.finding-index ≤ length l.findings;
  long : length l.counts.items ≡ length l.regions;
  few : (n : ℕ) → slice_index_or l.counts.items n 0 ≤ l.finding-index;
  rest : all_counted l.regions l.counts.items (drop l.finding-index l.findings) ≡ held_counts l.findings l.regions;
}
