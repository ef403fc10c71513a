use Rattle.std.proofs.Common.{◌≤◌, length, List}
use Rattle.ada_syntax.specs.declared.unit.WithClause.{WithClause}
use Rattle.expression_parser.specs.Reading.{Reading}
use Rattle.expression_parser.specs.Shows.{Reads, More}
use Rattle.ada_parser.specs.UnitReading as read
use Rattle.ada_parser.proofs.ContextCode.{with_turns}
use Rattle.ada_parser.proofs.contexts.withs.Given as goal

-- what is read from here is what is read from the beginning
abbrev pub invariant-loop-after : goal.invariant-loop-after
invariant-loop-after l = record {
  reads : (q : Reading (List WithClause)) → More with_turns l.rest l.withs.items q → Reads read.withs_by l.tokens q;
  shorter : length l.rest ≤ length l.tokens;
}

abbrev pub decreases-loop-after : goal.decreases-loop-after
decreases-loop-after l = length l.rest
