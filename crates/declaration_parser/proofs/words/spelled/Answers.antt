use Rattle.std.proofs.Common.{arith}
use Rattle.declaration_parser.proofs.WordCode.{spelled_rules}
use Rattle.declaration_parser.proofs.words.spelled.Goals as goal

pub returns-else-is_spelled : goal.returns-else-is_spelled
returns-else-is_spelled c = grind (arith, spelled_rules)

pub returns-in_default : goal.returns-in_default
returns-in_default c = grind (arith, spelled_rules)

pub returns-then-is_spelled : goal.returns-then-is_spelled
returns-then-is_spelled c = grind (arith, spelled_rules)

pub returns-then-ne : goal.returns-then-ne
returns-then-ne c = grind (arith, spelled_rules)
