use Rattle.std.proofs.Common.{◌≡◌, ◌≤◌, ◌++◌, ◌∷◌, [], length, drop, nat_lt, slice_index_or}
use Rattle.annotated_report.specs.Numbered.{each_numbered}
use Rattle.xcov_report.specs.Obliged.{of_region}
use Rattle.xcov_report.proofs.regions.tell_counted.Given as goal

-- what was told so far, and what the regions that are left tell
abbrev pub invariant-loop-number : goal.invariant-loop-number
invariant-loop-number l = record {
  within : l.number ≤ length l.regions;
  told : l.stretches.items
      ++ each_numbered (λ n region. of_region (nat_lt 0 (slice_index_or l.counts n 0)) region ∷ []) l.number (drop l.number l.regions)
      ≡ l.fn.stretches.items
      ++ each_numbered (λ n region. of_region (nat_lt 0 (slice_index_or l.counts n 0)) region ∷ []) 0 l.regions;
}
