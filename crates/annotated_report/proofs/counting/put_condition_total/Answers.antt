use Rattle.std.proofs.Common.{arith}
use Rattle.std.proofs.lemmas.Grind.{common_steps}
use Rattle.annotated_report.proofs.counting.put_condition_total.Goals as goal

pub returns-then-asks_pairs : goal.returns-then-asks_pairs
returns-then-asks_pairs c = grind (arith, common_steps)
