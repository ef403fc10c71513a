use Rattle.std.proofs.Common.{◌≡◌, ◌≤◌, length, drop}
use Rattle.annotated_report.specs.Held.{number_round}
use Rattle.annotated_report.proofs.regions.number_round.Given as goal

-- the regions that are left answer as all
abbrev pub invariant-loop-number : goal.invariant-loop-number
invariant-loop-number l = record {
  within : l.number ≤ length l.regions;
  rest : number_round l.pos l.number (drop l.number l.regions) ≡ number_round l.pos 0 l.regions;
}
