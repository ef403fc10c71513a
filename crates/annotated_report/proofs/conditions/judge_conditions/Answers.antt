use Rattle.std.proofs.Common.{arith}
use Rattle.std.proofs.lemmas.Grind.{common_steps}
use Rattle.annotated_report.proofs.conditions.judge_conditions.Goals as goal

pub loop-c-preserved : goal.loop-c-preserved
loop-c-preserved c = grind (arith, common_steps)

pub returns-clause-pairs : goal.returns-clause-pairs
returns-clause-pairs c = grind (arith, common_steps)

pub returns-clause-findings : goal.returns-clause-findings
returns-clause-findings c = grind (arith, common_steps)
