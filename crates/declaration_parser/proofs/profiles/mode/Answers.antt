use Rattle.std.proofs.Common.{arith}
use Rattle.declaration_parser.proofs.ProfileCode.{mode_rules}
use Rattle.declaration_parser.proofs.profiles.mode.Goals as goal

pub returns-in-None-clause-no_longer : goal.returns-in-None-clause-no_longer
returns-in-None-clause-no_longer c = grind (arith, mode_rules)

pub returns-in-None-clause-reads : goal.returns-in-None-clause-reads
returns-in-None-clause-reads c = grind (arith, mode_rules)

pub returns-in-Some-behind-2-clause-no_longer : goal.returns-in-Some-behind-2-clause-no_longer
returns-in-Some-behind-2-clause-no_longer c = grind (arith, mode_rules)

pub returns-in-Some-clause-no_longer : goal.returns-in-Some-clause-no_longer
returns-in-Some-clause-no_longer c = grind (arith, mode_rules)

pub returns-in_default-behind-clause-reads : goal.returns-in_default-behind-clause-reads
returns-in_default-behind-clause-reads c = grind (arith, mode_rules)
