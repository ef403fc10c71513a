use Rattle.std.proofs.Common.{arith}
use Rattle.declaration_parser.proofs.DeclarationCode.{initial_part_rules}
use Rattle.declaration_parser.proofs.declarations.initial_part.Goals as goal

pub returns-clause-no_longer : goal.returns-clause-no_longer
returns-clause-no_longer c = grind (arith, initial_part_rules)

pub returns-clause-reads : goal.returns-clause-reads
returns-clause-reads c = grind (arith, initial_part_rules)

pub returns-in_default-clause-reads : goal.returns-in_default-clause-reads
returns-in_default-clause-reads c = grind (arith, initial_part_rules)

pub returns-in_err-value-clause-reads : goal.returns-in_err-value-clause-reads
returns-in_err-value-clause-reads c = grind (arith, initial_part_rules)
