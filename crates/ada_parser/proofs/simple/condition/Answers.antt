use Rattle.std.proofs.Common.{arith}
use Rattle.ada_parser.proofs.SimpleCode.{condition_rules}
use Rattle.ada_parser.proofs.simple.condition.Goals as goal

pub returns-in_default-clause-reads : goal.returns-in_default-clause-reads
returns-in_default-clause-reads c = grind (arith, condition_rules)

pub returns-in_default-clause-no_longer : goal.returns-in_default-clause-no_longer
returns-in_default-clause-no_longer c = grind (arith, condition_rules)

pub returns-in_err-condition-clause-reads : goal.returns-in_err-condition-clause-reads
returns-in_err-condition-clause-reads c = grind (arith, condition_rules)

pub returns-in_err-condition-clause-no_longer : goal.returns-in_err-condition-clause-no_longer
returns-in_err-condition-clause-no_longer c = grind (arith, condition_rules)

pub returns-clause-reads : goal.returns-clause-reads
returns-clause-reads c = grind (arith, condition_rules)

pub returns-clause-no_longer : goal.returns-clause-no_longer
returns-clause-no_longer c = grind (arith, condition_rules)
