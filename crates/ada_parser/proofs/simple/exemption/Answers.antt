use Rattle.std.proofs.Common.{arith}
use Rattle.ada_parser.proofs.SimpleCode.{pragma_rules}
use Rattle.ada_parser.proofs.simple.exemption.Goals as goal

pub returns-in_err-exemption-clause-reads : goal.returns-in_err-exemption-clause-reads
returns-in_err-exemption-clause-reads c = grind (arith, pragma_rules)

pub returns-in_err-exemption-clause-shorter : goal.returns-in_err-exemption-clause-shorter
returns-in_err-exemption-clause-shorter c = grind (arith, pragma_rules)

pub returns-clause-reads : goal.returns-clause-reads
returns-clause-reads c = grind (arith, pragma_rules)

pub returns-clause-shorter : goal.returns-clause-shorter
returns-clause-shorter c = grind (arith, pragma_rules)
