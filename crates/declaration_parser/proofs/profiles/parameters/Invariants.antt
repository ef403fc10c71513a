use Rattle.std.proofs.Common.{◌<◌, length, List}
use Rattle.ada_syntax.specs.declared.unit.Parameter.{Parameter}
use Rattle.declaration_parser.specs.DeclarationReading as read
use Rattle.expression_parser.specs.Reading.{Reading}
use Rattle.expression_parser.specs.Shows.{Reads, More}
use Rattle.declaration_parser.proofs.profiles.parameters.Given as goal

-- what is read from here is what is read from the beginning
abbrev pub invariant-loop-after : goal.invariant-loop-after
invariant-loop-after l = record {
  reads : (q : Reading (List Parameter)) → More (read.parameters_turn l.parser.extent) l.rest l.parameters.items q → Reads (read.parameters_by l.parser.extent) l.tokens q;
  shorter : length l.rest < length l.tokens;
}

abbrev pub decreases-loop-after : goal.decreases-loop-after
decreases-loop-after l = length l.rest
