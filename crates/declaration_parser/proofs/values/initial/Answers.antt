use Rattle.std.proofs.Common.{arith}
use Rattle.declaration_parser.proofs.ValueCode.{initial_rules}
use Rattle.declaration_parser.proofs.values.initial.Goals as goal

pub returns-clause-reads : goal.returns-clause-reads
returns-clause-reads c = grind (arith, initial_rules)
