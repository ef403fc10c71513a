-- What is left decides whether all rise.
use Rattle.std.proofs.Common.{◌≡◌, ◌≤◌, length, drop}
use Rattle.annotated_report.specs.Rising.{rise, rise_behind}
use Rattle.annotated_report.proofs.regions.rise.Given as goal

abbrev pub invariant-loop-region : goal.invariant-loop-region
invariant-loop-region l = record {
  within : l.region-index ≤ length l.rest;
  rest : rise_behind l.before (drop l.region-index l.rest) ≡ rise l.regions;
}
