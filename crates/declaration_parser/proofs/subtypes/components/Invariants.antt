use Rattle.std.proofs.Common.{◌<◌, length, List}
use Rattle.ada_syntax.specs.declared.declaration.Component.{Component}
use Rattle.declaration_parser.specs.SubtypeReading as read
use Rattle.expression_parser.specs.Reading.{Reading}
use Rattle.expression_parser.specs.Shows.{Reads, More}
use Rattle.declaration_parser.proofs.subtypes.components.Given as goal

-- what is read from here is what is read from the beginning
abbrev pub invariant-rest : goal.invariant-rest
invariant-rest l = record {
  reads : (q : Reading (List Component)) → More (read.components_turn l.parser.extent) l.rest l.components.items q → Reads (read.components_by l.parser.extent) l.tokens q;
  shorter : length l.rest < length l.tokens;
}

abbrev pub decreases-rest : goal.decreases-rest
decreases-rest l = length l.rest
