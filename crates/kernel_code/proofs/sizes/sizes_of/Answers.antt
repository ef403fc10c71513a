use Rattle.std.proofs.lemmas.Grind.{common_steps}
use Rattle.std.proofs.Common.{arith}
use Rattle.kernel_code.proofs.Lines.{sizes_are}
use Rattle.kernel_code.proofs.sizes.sizes_of.Goals as goal

pub loop-layout-init : goal.loop-layout-init
loop-layout-init c = grind (arith, sizes_are)

pub loop-layout-preserved : goal.loop-layout-preserved
loop-layout-preserved c = grind (arith, common_steps)

pub returns : goal.returns
returns c = grind (arith, common_steps)
