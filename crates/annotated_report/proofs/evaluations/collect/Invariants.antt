use Rattle.std.proofs.Common.{◌≡◌, ◌<◌, ◌≤◌, ◌++◌, ℕ, length, drop}
use Rattle.annotated_report.specs.Marked.{collected}
use Rattle.annotated_report.specs.Verdicts.{vectors_of}
use Rattle.annotated_report.proofs.evaluations.collect.Given as goal

-- the vectors so far, and those of the events that are left
abbrev pub invariant-loop-event : goal.invariant-loop-event
invariant-loop-event l = record {
  within : l.event-index ≤ length l.events;
  length : length l.all.items ≡ l.count;
  vectors : (d : ℕ) → d < l.count → collected l.all.items d ++ vectors_of (drop l.event-index l.events) d ≡ vectors_of l.events d;
}
