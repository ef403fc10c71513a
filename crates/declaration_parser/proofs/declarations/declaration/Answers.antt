use Rattle.std.proofs.Common.{arith}
use Rattle.declaration_parser.proofs.DeclarationCode.{declaration_rules}
use Rattle.declaration_parser.proofs.declarations.declaration.Goals as goal

pub returns-clause-reads : goal.returns-clause-reads
returns-clause-reads c = grind (arith, declaration_rules)

pub returns-clause-shorter : goal.returns-clause-shorter
returns-clause-shorter c = grind (arith, declaration_rules)

pub returns-in_default-clause-reads : goal.returns-in_default-clause-reads
returns-in_default-clause-reads c = grind (arith, declaration_rules)

pub returns-in_default-clause-shorter : goal.returns-in_default-clause-shorter
returns-in_default-clause-shorter c = grind (arith, declaration_rules)

pub returns-in_err-kind-clause-reads : goal.returns-in_err-kind-clause-reads
returns-in_err-kind-clause-reads c = grind (arith, declaration_rules)

pub returns-in_err-kind-clause-shorter : goal.returns-in_err-kind-clause-shorter
returns-in_err-kind-clause-shorter c = grind (arith, declaration_rules)
