use Rattle.std.proofs.Common.{◌≡◌, ◌≤◌, ◌++◌, length, drop, map, codes}
use Rattle.std.specs.List.{flat_map}
use Rattle.annotated_report.specs.Lines.{shown_line}
use Rattle.annotated_report.specs.Report.{section_text}
use Rattle.annotated_report.proofs.lines.put_pairs.Given as goal

-- the lines so far, and those of the items that are left, are all lines
abbrev pub invariant-loop-line : goal.invariant-loop-line
invariant-loop-line l = record {
  within : l.line-index ≤ length l.pairs;
  lines : l.text.items ++ flat_map (shown_line (map (λ file. file.name) l.files)) (drop l.line-index l.pairs)
      ≡ l.fn.text.items ++ section_text (codes "pairs: ") (shown_line (map (λ file. file.name) l.files)) l.pairs;
}
