-- What is left to mark leads to what all mark.
use Rattle.std.proofs.Common.{[], drop}
use Rattle.ada_rules.specs.Library.{next_ones}
use Rattle.ada_library.proofs.MarkLaws.{MarksRest}
use Rattle.ada_library.proofs.search.step.Given as goal

abbrev pub invariant-loop-unit : goal.invariant-loop-unit
invariant-loop-unit l =
    MarksRest (next_ones l.graph (drop l.unit-index l.units)) (next_ones l.graph l.units) l.fn.marks l.marks [] l.new.items
