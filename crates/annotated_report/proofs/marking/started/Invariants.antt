use Rattle.std.proofs.Common.{◌≡◌, ◌<◌, ℕ, length, drop, ◌≤◌, ◌||◌}
use Rattle.annotated_report.specs.Marked.{marked}
use Rattle.annotated_report.specs.Verdicts.{is_started}
use Rattle.annotated_report.proofs.marking.started.Given as goal

-- a mark, or a start among the events that are left
abbrev pub invariant-loop-event : goal.invariant-loop-event
invariant-loop-event l = record {
  within : l.event-index ≤ length l.events;
  length : length l.marks.items ≡ l.count;
  marks : (n : ℕ) → n < l.count → (marked l.marks.items n || is_started (drop l.event-index l.events) n) ≡ is_started l.events n;
}
