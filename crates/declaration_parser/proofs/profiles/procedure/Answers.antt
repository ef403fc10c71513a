use Rattle.std.proofs.Common.{arith}
use Rattle.declaration_parser.proofs.ProfileCode.{procedure_rules}
use Rattle.declaration_parser.proofs.profiles.procedure.Goals as goal

pub returns-clause-reads : goal.returns-clause-reads
returns-clause-reads c = grind (arith, procedure_rules)

pub returns-clause-shorter : goal.returns-clause-shorter
returns-clause-shorter c = grind (arith, procedure_rules)

pub returns-in_err-name-clause-reads : goal.returns-in_err-name-clause-reads
returns-in_err-name-clause-reads c = grind (arith, procedure_rules)

pub returns-in_err-parameters-clause-reads : goal.returns-in_err-parameters-clause-reads
returns-in_err-parameters-clause-reads c = grind (arith, procedure_rules)
