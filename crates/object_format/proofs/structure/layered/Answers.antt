use Rattle.std.proofs.Common.{arith}
use Rattle.std.proofs.lemmas.Grind.{common_steps}
use Rattle.object_format.specs.File.{structured}
use Rattle.object_format.proofs.structure.layered.Goals as goal

pub returns-in-Err-Fault : goal.returns-in-Err-Fault
unfolding structured
returns-in-Err-Fault c = grind (arith, common_steps)

pub returns : goal.returns
unfolding structured
returns c = grind (arith, common_steps)
