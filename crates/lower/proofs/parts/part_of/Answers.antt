use Rattle.std.proofs.Common.{arith}
use Rattle.std.proofs.lemmas.Grind.{common_steps}
use Rattle.lower.proofs.parts.part_of.Goals as goal

pub loop-selector-preserved : goal.loop-selector-preserved
loop-selector-preserved c = grind (arith, common_steps)
