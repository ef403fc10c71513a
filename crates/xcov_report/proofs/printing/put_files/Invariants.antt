use Rattle.std.proofs.Common.{◌≡◌, ◌≤◌, ◌++◌, length, drop}
use Rattle.annotated_report.specs.Numbered.{each_numbered}
use Rattle.xcov_report.specs.Table.{kept_mark, row_at, marked_files}
use Rattle.xcov_report.specs.Text.{file_text}
use Rattle.xcov_report.proofs.printing.put_files.Given as goal

-- the text so far, and that of the files that are left
abbrev pub invariant-loop-number : goal.invariant-loop-number
invariant-loop-number l = record {
  within : l.number ≤ length l.files;
  whole : l.text.items ++ each_numbered (λ n file. file_text (kept_mark (row_at l.rows n)) file) l.number (drop l.number l.files)
      ≡ l.fn.text.items ++ marked_files l.rows l.files;
}
