use Rattle.std.proofs.Common.{◌≡◌, ◌++◌, drop}
use Rattle.coverage_set.specs.Written.{vectors_among}
use Rattle.coverage_set.proofs.entries.vectors_among.Given as goal

abbrev pub invariant-loop-event : goal.invariant-loop-event
invariant-loop-event l = l.vectors.items ++ vectors_among (drop l.event-index l.events) ≡ vectors_among l.events
