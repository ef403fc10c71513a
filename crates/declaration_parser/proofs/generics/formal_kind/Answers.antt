use Rattle.std.proofs.Common.{arith}
use Rattle.declaration_parser.proofs.FormalCode.{kind_rules}
use Rattle.declaration_parser.proofs.generics.formal_kind.Goals as goal

pub returns-clause-reads : goal.returns-clause-reads
returns-clause-reads c = grind (arith, kind_rules)

pub returns-then-not-opens-clause-reads : goal.returns-then-not-opens-clause-reads
returns-then-not-opens-clause-reads c = grind (arith, kind_rules)
