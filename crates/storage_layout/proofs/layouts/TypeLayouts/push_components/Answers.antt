use Rattle.std.proofs.Common.{arith}
use Rattle.std.proofs.lemmas.Grind.{common_steps}
use Rattle.storage_layout.proofs.layouts.TypeLayouts.push_components.Goals as goal

pub loop-component-preserved : goal.loop-component-preserved
loop-component-preserved c = grind (arith, common_steps)
