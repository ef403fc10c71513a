use Rattle.std.proofs.Common.{arith}
use Rattle.declaration_parser.proofs.SubtypeCode.{constraint_rules}
use Rattle.declaration_parser.proofs.subtypes.constraint.Goals as goal

pub returns-clause-no_longer : goal.returns-clause-no_longer
returns-clause-no_longer c = grind (arith, constraint_rules)

pub returns-clause-reads : goal.returns-clause-reads
returns-clause-reads c = grind (arith, constraint_rules)

pub returns-in_default-clause-reads : goal.returns-in_default-clause-reads
returns-in_default-clause-reads c = grind (arith, constraint_rules)

pub returns-in_err-bounds-clause-reads : goal.returns-in_err-bounds-clause-reads
returns-in_err-bounds-clause-reads c = grind (arith, constraint_rules)

pub returns-then-not-opens-clause-reads : goal.returns-then-not-opens-clause-reads
returns-then-not-opens-clause-reads c = grind (arith, constraint_rules)
