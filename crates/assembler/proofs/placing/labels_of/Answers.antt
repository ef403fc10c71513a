use Rattle.std.proofs.Common.{arith}
use Rattle.std.proofs.lemmas.Grind.{common_steps}
use Rattle.assembler.proofs.placing.labels_of.Goals as goal

pub overflow_add-address : goal.overflow_add-address
overflow_add-address c = grind (arith, common_steps) steps 2000000

pub loop-item-preserved : goal.loop-item-preserved
loop-item-preserved c = grind (arith, common_steps) steps 2000000

pub returns : goal.returns
returns c = grind (arith, common_steps) steps 2000000
