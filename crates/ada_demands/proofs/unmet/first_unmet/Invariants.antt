-- What was asked so far is met, and is kept.
use Rattle.std.proofs.Common.{drop}
use Rattle.ada_demands.specs.Past.{past_at}
use Rattle.ada_demands.specs.SpanViews.{listed}
use Rattle.ada_demands.proofs.UnmetLaws.{Seen}
use Rattle.ada_demands.proofs.unmet.first_unmet.Given as goal

abbrev pub invariant-loop-next : goal.invariant-loop-next
invariant-loop-next l = Seen l.instances (listed l.spans) l.asked (drop l.next-index l.asked) (past_at l.history)
