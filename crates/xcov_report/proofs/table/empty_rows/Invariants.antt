use Rattle.std.proofs.Common.{◌≡◌, ◌≤◌, ◌+◌, ℕ, false, length, map, take}
use Rattle.std.specs.Str.Lines.{lines}
use Rattle.xcov_report.specs.Table.{kept_at}
use Rattle.xcov_report.specs.declared.told.Told.{Told}
use Rattle.xcov_report.proofs.table.empty_rows.Given as goal

-- a row for each file so far
abbrev pub invariant-loop-file : goal.invariant-loop-file
invariant-loop-file l = record {
  within : l.file-index ≤ length l.files;
  lengths : map length l.rows.items ≡ map (λ file. length (lines file.bytes) + 1) (take l.file-index l.files);
  nothing : (told : Told) (file line : ℕ) → kept_at told l.rows.items file line ≡ false;
}
