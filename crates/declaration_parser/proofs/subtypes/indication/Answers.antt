use Rattle.std.proofs.Common.{arith}
use Rattle.declaration_parser.proofs.SubtypeCode.{indication_rules}
use Rattle.declaration_parser.proofs.subtypes.indication.Goals as goal

pub returns-clause-reads : goal.returns-clause-reads
returns-clause-reads c = grind (arith, indication_rules)

pub returns-clause-shorter : goal.returns-clause-shorter
returns-clause-shorter c = grind (arith, indication_rules)

pub returns-in_err-constraint-clause-reads : goal.returns-in_err-constraint-clause-reads
returns-in_err-constraint-clause-reads c = grind (arith, indication_rules)

pub returns-in_err-constraint-clause-shorter : goal.returns-in_err-constraint-clause-shorter
returns-in_err-constraint-clause-shorter c = grind (arith, indication_rules)

pub returns-in_err-mark-clause-reads : goal.returns-in_err-mark-clause-reads
returns-in_err-mark-clause-reads c = grind (arith, indication_rules)
