use Rattle.std.proofs.Common.{◌≡◌, ◌≤◌, length, take}
use Rattle.cov_base.specs.Lists.{Everywhere}
use Rattle.workload_runs.specs.Runs.{AddsRuns, HasEnded}
use Rattle.workload_runs.proofs.adding.add_runs.Given as goal

-- the runs so far ended, and were added
abbrev pub invariant-loop-place : goal.invariant-loop-place
invariant-loop-place l = record {
  within : l.place ≤ length l.inputs;
  own : l.coverage.object ≡ l.fn.coverage.object;
  ended : Everywhere (HasEnded l.object) (take l.place l.inputs);
  added : AddsRuns l.object (take l.place l.inputs) l.fn.coverage l.coverage;
}
