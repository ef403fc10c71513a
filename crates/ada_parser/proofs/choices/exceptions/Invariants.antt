use Rattle.std.proofs.Common.{◌<◌, length, List}
use Rattle.ada_syntax.specs.declared.statement.ExceptionChoice.{ExceptionChoice}
use Rattle.expression_parser.specs.declared.symbol.Symbol.TheVariants as symbol
use Rattle.expression_parser.specs.Reading.{Reading}
use Rattle.expression_parser.specs.Shows.{Reads, More}
use Rattle.ada_parser.specs.StatementReading as read
use Rattle.ada_parser.proofs.Steps.{turns}
use Rattle.ada_parser.proofs.choices.exceptions.Given as goal

-- what is read from here is what is read from the beginning
abbrev pub invariant-loop-after : goal.invariant-loop-after
invariant-loop-after l = record {
  reads : (q : Reading (List ExceptionChoice)) → More (turns symbol.Bar (read.exception_by l.parser.extent) read.pushed) l.rest l.exceptions.items q → Reads (read.exceptions_by l.parser.extent) l.tokens q;
  shorter : length l.rest < length l.tokens;
}

abbrev pub decreases-loop-after : goal.decreases-loop-after
decreases-loop-after l = length l.rest
