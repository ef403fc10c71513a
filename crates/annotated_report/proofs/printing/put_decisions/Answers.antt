use Rattle.std.proofs.Common.{arith}
use Rattle.std.proofs.lemmas.Grind.{common_steps}
use Rattle.annotated_report.proofs.printing.put_decisions.Goals as goal

pub returns-then-asks_outcomes : goal.returns-then-asks_outcomes
returns-then-asks_outcomes c = grind (arith, common_steps)
