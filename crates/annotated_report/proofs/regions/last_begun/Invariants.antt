-- Where the regions rise, those that are left rise and answer as all do.
use Rattle.std.proofs.Common.{◌≡◌, ◌≤◌, ◌+◌, length}
use Rattle.std.specs.Bool.{IsTrue}
use Rattle.annotated_report.specs.Held.{number_round}
use Rattle.annotated_report.specs.Rising.{rise}
use Rattle.annotated_report.proofs.regions.last_begun.Given as goal

abbrev pub invariant-loop-rest : goal.invariant-loop-rest
invariant-loop-rest l = record {
  within : l.before + length l.rest ≤ length l.regions;
  risen : IsTrue (rise l.regions) → IsTrue (rise l.rest);
  same : IsTrue (rise l.regions) → number_round l.pos l.before l.rest ≡ number_round l.pos 0 l.regions;
}

abbrev pub decreases-loop-rest : goal.decreases-loop-rest
decreases-loop-rest l = length l.rest
