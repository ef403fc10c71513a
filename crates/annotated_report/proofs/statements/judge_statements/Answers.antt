use Rattle.std.proofs.Common.{arith}
use Rattle.std.proofs.lemmas.Grind.{common_steps}
use Rattle.annotated_report.proofs.statements.judge_statements.Goals as goal

pub loop-number-preserved : goal.loop-number-preserved
loop-number-preserved c = grind (arith, common_steps)

pub returns-clause-covered : goal.returns-clause-covered
returns-clause-covered c = grind (arith, common_steps)

pub returns-clause-findings : goal.returns-clause-findings
returns-clause-findings c = grind (arith, common_steps)
