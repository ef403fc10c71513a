use Rattle.std.proofs.Common.{arith}
use Rattle.std.proofs.lemmas.Grind.{common_steps}
use Rattle.ada_demands.proofs.choices.is_next.Goals as goal

pub returns-else-is_present : goal.returns-else-is_present
returns-else-is_present c = grind (arith, common_steps)

pub returns-then-is_present : goal.returns-then-is_present
returns-then-is_present c = grind (arith, common_steps)

pub returns-else-range-values : goal.returns-else-range-values
returns-else-range-values c = grind (arith, common_steps)
