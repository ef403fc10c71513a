use Rattle.std.proofs.Common.{arith}
use Rattle.std.proofs.lemmas.Grind.{common_steps}
use Rattle.commands.proofs.ready.compiled.condition_count.Goals as goal

pub loop-decision-preserved : goal.loop-decision-preserved
loop-decision-preserved c = grind (arith, common_steps)
