use Rattle.std.proofs.Common.{arith}
use Rattle.declaration_parser.proofs.PragmaCode.{pragma_rules}
use Rattle.declaration_parser.proofs.pragmas.exemption_pragma.Goals as goal

pub returns-clause-reads : goal.returns-clause-reads
returns-clause-reads c = grind (arith, pragma_rules)

pub returns-clause-shorter : goal.returns-clause-shorter
returns-clause-shorter c = grind (arith, pragma_rules)

pub returns-in_default-clause-reads : goal.returns-in_default-clause-reads
returns-in_default-clause-reads c = grind (arith, pragma_rules)

pub returns-then-not-opens-clause-reads : goal.returns-then-not-opens-clause-reads
returns-then-not-opens-clause-reads c = grind (arith, pragma_rules)
