use Rattle.std.proofs.Common.{arith}
use Rattle.std.proofs.lemmas.Grind.{common_steps}
use Rattle.storage_layout.proofs.frames.frame_of.Goals as goal

pub loop-number-preserved : goal.loop-number-preserved
loop-number-preserved c = grind (arith, common_steps)

pub returns-clause-objects : goal.returns-clause-objects
returns-clause-objects c = grind (arith, common_steps)

pub returns-clause-base : goal.returns-clause-base
returns-clause-base c = grind (arith, common_steps)
