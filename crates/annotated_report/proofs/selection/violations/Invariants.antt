use Rattle.std.proofs.Common.{◌≡◌, ◌≤◌, ◌++◌, length, drop, not}
use Rattle.std.specs.List.{filter}
use Rattle.exemptions.specs.Regions.{is_exempt}
use Rattle.annotated_report.proofs.selection.violations.Given as goal

-- those so far, and those among what is left, are all
abbrev pub invariant-loop-finding : goal.invariant-loop-finding
invariant-loop-finding l = record {
  within : l.finding-index ≤ length l.findings;
  rest : l.selected.items ++ filter (λ f. not (is_exempt l.regions f.key.pos)) (drop l.finding-index l.findings) ≡ filter (λ f. not (is_exempt l.regions f.key.pos)) l.findings;
}
