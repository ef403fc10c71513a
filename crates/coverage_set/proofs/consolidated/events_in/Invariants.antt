use Rattle.std.proofs.Common.{◌≡◌, ◌++◌, map, drop}
use Rattle.coverage_set.specs.Consolidated.{start_of, done_of, events_in}
use Rattle.coverage_set.proofs.consolidated.events_in.Given as goal

abbrev pub invariant-loop-at : goal.invariant-loop-at
invariant-loop-at l = l.events.items ++ map start_of (drop l.at l.fn.view.starts) ≡ map start_of l.fn.view.starts

abbrev pub invariant-loop-at-2 : goal.invariant-loop-at-2
invariant-loop-at-2 l = l.events.items ++ map done_of (drop l.at l.fn.view.vectors) ≡ events_in l.fn.view
