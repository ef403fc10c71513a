use Rattle.std.proofs.Common.{◌≡◌, ◌<◌, ◌-◌, ◌&&◌, ◌||◌, ℕ, length, nat_le}
use Rattle.xcov_report.specs.Table.{kept_in}
use Rattle.xcov_report.specs.Told.{same_told}
use Rattle.xcov_report.specs.declared.told.Told.{Told}
use Rattle.xcov_report.proofs.table.Row.keep_all.Given as goal

-- what is kept, and what is still to be kept of the lines from this one on
abbrev pub invariant-loop-line : goal.invariant-loop-line
invariant-loop-line l = record {
  long : length l.self ≡ length l.fn.self;
  kept : (other : Told) (at : ℕ) → at < length l.fn.self
      → (kept_in other l.self at || (same_told other l.told && (nat_le l.line at && nat_le at l.to)))
      ≡ (kept_in other l.fn.self at || (same_told other l.told && (nat_le l.from at && nat_le at l.to)));
}

abbrev pub decreases-loop-line : goal.decreases-loop-line
decreases-loop-line l = length l.self - l.line
