use Rattle.std.proofs.Common.{arith}
use Rattle.std.proofs.lemmas.Grind.{common_steps}
use Rattle.annotated_report.proofs.Appending.{select_more}
use Rattle.annotated_report.proofs.selection.exempted.Goals as goal

pub loop-finding-preserved : goal.loop-finding-preserved
loop-finding-preserved c = grind (arith, common_steps, select_more)

pub returns : goal.returns
returns c = grind (arith, common_steps)
