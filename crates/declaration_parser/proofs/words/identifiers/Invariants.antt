use Rattle.std.proofs.Common.{◌<◌, length, List}
use Rattle.ada_syntax.specs.declared.name.Identifier.{Identifier}
use Rattle.declaration_parser.specs.Identifiers as read
use Rattle.expression_parser.specs.Reading.{Reading}
use Rattle.expression_parser.specs.Shows.{Reads, More}
use Rattle.declaration_parser.proofs.words.identifiers.Given as goal

-- what is read from here is what is read from the beginning
abbrev pub invariant-loop-after : goal.invariant-loop-after
invariant-loop-after l = record {
  reads : (q : Reading (List Identifier)) → More read.identifiers_turns l.rest l.identifiers.items q → Reads read.identifiers_by l.tokens q;
  shorter : length l.rest < length l.tokens;
}

abbrev pub decreases-loop-after : goal.decreases-loop-after
decreases-loop-after l = length l.rest
