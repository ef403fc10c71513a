use Rattle.std.proofs.Common.{◌≡◌, ◌≤◌, ◌++◌, length, drop, map, codes}
use Rattle.std.specs.List.{flat_map}
use Rattle.annotated_report.specs.Lines.{exempted_line}
use Rattle.annotated_report.specs.Report.{section_text}
use Rattle.annotated_report.proofs.lines.put_all_exempted.Given as goal

-- the lines so far, and those of the items that are left, are all lines
abbrev pub invariant-loop-finding : goal.invariant-loop-finding
invariant-loop-finding l = record {
  within : l.finding-index ≤ length l.findings;
  lines : l.text.items ++ flat_map (exempted_line (map (λ file. file.name) l.files) l.regions) (drop l.finding-index l.findings)
      ≡ l.fn.text.items ++ section_text (codes "exempted: ") (exempted_line (map (λ file. file.name) l.files) l.regions) l.findings;
}
