use Rattle.std.proofs.Common.{arith}
use Rattle.declaration_parser.proofs.FormalCode.{formal_rules}
use Rattle.declaration_parser.proofs.generics.formal.Goals as goal

pub returns-clause-reads : goal.returns-clause-reads
returns-clause-reads c = grind (arith, formal_rules)

pub returns-clause-shorter : goal.returns-clause-shorter
returns-clause-shorter c = grind (arith, formal_rules)

pub returns-in_default-clause-reads : goal.returns-in_default-clause-reads
returns-in_default-clause-reads c = grind (arith, formal_rules)

pub returns-in_err-kind-clause-reads : goal.returns-in_err-kind-clause-reads
returns-in_err-kind-clause-reads c = grind (arith, formal_rules)
