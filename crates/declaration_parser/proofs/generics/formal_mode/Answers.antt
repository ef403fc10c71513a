use Rattle.std.proofs.Common.{arith}
use Rattle.declaration_parser.proofs.FormalCode.{mode_rules}
use Rattle.declaration_parser.proofs.generics.formal_mode.Goals as goal

pub returns-in-None-clause-reads : goal.returns-in-None-clause-reads
returns-in-None-clause-reads c = grind (arith, mode_rules)

pub returns-in-Some-clause-no_longer : goal.returns-in-Some-clause-no_longer
returns-in-Some-clause-no_longer c = grind (arith, mode_rules)

pub returns-in-Some-clause-reads : goal.returns-in-Some-clause-reads
returns-in-Some-clause-reads c = grind (arith, mode_rules)
