use Rattle.std.proofs.Common.{arith}
use Rattle.declaration_parser.proofs.ValueCode.{aggregate_rules}
use Rattle.declaration_parser.proofs.values.aggregate.Goals as goal

pub returns : goal.returns
returns c = grind (arith, aggregate_rules)

pub returns-in_default-behind : goal.returns-in_default-behind
returns-in_default-behind c = grind (arith, aggregate_rules)

pub returns-in_default : goal.returns-in_default
returns-in_default c = grind (arith, aggregate_rules)

pub returns-then-ne : goal.returns-then-ne
returns-then-ne c = grind (arith, aggregate_rules)

pub returns-then-not-opens : goal.returns-then-not-opens
returns-then-not-opens c = grind (arith, aggregate_rules)
