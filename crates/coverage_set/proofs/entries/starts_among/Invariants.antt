use Rattle.std.proofs.Common.{◌≡◌, ◌++◌, drop}
use Rattle.coverage_set.specs.Written.{starts_among}
use Rattle.coverage_set.proofs.entries.starts_among.Given as goal

abbrev pub invariant-loop-event : goal.invariant-loop-event
invariant-loop-event l = l.starts.items ++ starts_among (drop l.event-index l.events) ≡ starts_among l.events
