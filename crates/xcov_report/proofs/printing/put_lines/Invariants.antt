use Rattle.std.proofs.Common.{◌≡◌, ◌+◌, ◌++◌, ◌≤◌, length}
use Rattle.std.specs.Str.Lines.{lines}
use Rattle.xcov_report.specs.Table.{kept_mark}
use Rattle.xcov_report.specs.Text.{lines_text}
use Rattle.xcov_report.proofs.printing.put_lines.Given as goal

-- the text so far, and that of the lines that are left
abbrev pub invariant-loop-line : goal.invariant-loop-line
invariant-loop-line l = record {
  few : l.number + length l.rest ≤ 1 + length l.bytes;
  whole : l.text.items ++ lines_text (kept_mark l.row) l.number (lines l.rest)
      ≡ l.fn.text.items ++ lines_text (kept_mark l.row) 1 (lines l.bytes);
}

abbrev pub decreases-loop-line : goal.decreases-loop-line
decreases-loop-line l = length l.rest
