use Rattle.std.proofs.Common.{arith}
use Rattle.std.proofs.lemmas.Grind.{common_steps}
use Rattle.kernel_code.proofs.sizes.sum_of.Goals as goal

pub loop-layout-preserved : goal.loop-layout-preserved
loop-layout-preserved c = grind (arith, common_steps)

pub returns : goal.returns
returns c = grind (arith, common_steps)
