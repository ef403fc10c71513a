-- What is left to mark leads to what all mark.
use Rattle.std.proofs.Common.{drop}
use Rattle.ada_library.proofs.MarkLaws.{MarksRest}
use Rattle.ada_library.proofs.search.mark_all.Given as goal

abbrev pub invariant-loop-unit : goal.invariant-loop-unit
invariant-loop-unit l = MarksRest (drop l.unit-index l.units) l.units l.fn.marks l.marks l.fn.new.items l.new.items
