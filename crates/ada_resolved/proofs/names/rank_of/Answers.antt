use Rattle.std.proofs.Common.{arith}
use Rattle.std.proofs.lemmas.Grind.{common_steps}
use Rattle.ada_resolved.proofs.names.rank_of.Goals as goal

pub loop-exception-preserved : goal.loop-exception-preserved
loop-exception-preserved c = grind (arith, common_steps)
