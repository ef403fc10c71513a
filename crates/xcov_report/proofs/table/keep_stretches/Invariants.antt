use Rattle.std.proofs.Common.{◌≡◌, ◌<◌, ◌≤◌, ◌||◌, ℕ, length, drop}
use Rattle.std.specs.List.{list_any}
use Rattle.xcov_report.specs.Table.{kept_at, row_at}
use Rattle.xcov_report.specs.Told.{tells}
use Rattle.xcov_report.specs.declared.told.Told.{Told}
use Rattle.xcov_report.proofs.table.keep_stretches.Given as goal

-- what is kept, and what the stretches that are left tell
abbrev pub invariant-loop-stretch : goal.invariant-loop-stretch
invariant-loop-stretch l = record {
  within : l.stretch-index ≤ length l.stretches;
  count : length l.rows ≡ length l.fn.rows;
  lengths : (file : ℕ) → length (row_at l.rows file) ≡ length (row_at l.fn.rows file);
  kept : (told : Told) (file line : ℕ) → line < length (row_at l.fn.rows file)
      → (kept_at told l.rows file line || list_any (tells told file line) (drop l.stretch-index l.stretches))
      ≡ (kept_at told l.fn.rows file line || list_any (tells told file line) l.stretches);
}
