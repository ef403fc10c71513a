use Rattle.std.proofs.Common.{◌≡◌, ◌+◌, ◌≤◌, length}
use Rattle.std.specs.Str.Lines.{lines}
use Rattle.xcov_report.proofs.lines.line_count.Given as goal

-- the lines so far, and those of the bytes that are left
abbrev pub invariant-loop-after : goal.invariant-loop-after
invariant-loop-after l = record {
  few : l.count + length l.rest ≤ length l.bytes;
  whole : l.count + length (lines l.rest) ≡ length (lines l.bytes);
}

abbrev pub decreases-loop-after : goal.decreases-loop-after
decreases-loop-after l = length l.rest
