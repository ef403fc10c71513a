use Rattle.std.proofs.Common.{arith}
use Rattle.std.proofs.lemmas.Grind.{common_steps}
use Rattle.annotated_report.proofs.evaluations.collect.Goals as goal

pub loop-event-preserved : goal.loop-event-preserved
loop-event-preserved c = grind (arith, common_steps)

pub returns-clause-vectors : goal.returns-clause-vectors
returns-clause-vectors c = grind (arith, common_steps)
