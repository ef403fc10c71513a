use Rattle.std.proofs.Common.{arith}
use Rattle.std.proofs.lemmas.Grind.{common_steps}
use Rattle.codegen_rv32.proofs.fills.call_layouts.Goals as goal

pub loop-component-preserved : goal.loop-component-preserved
loop-component-preserved c = grind (arith, common_steps) steps 2000000
