use Rattle.std.proofs.Common.{arith}
use Rattle.std.proofs.lemmas.Grind.{common_steps}
use Rattle.decision_map.proofs.blocks.block_end.Goals as goal

pub returns-in-Stop : goal.returns-in-Stop
returns-in-Stop c = grind (arith, common_steps) steps 2000000

pub returns-in-Transfer : goal.returns-in-Transfer
returns-in-Transfer c = grind (arith, common_steps) steps 2000000

pub returns-in_err-kind-items : goal.returns-in_err-kind-items
returns-in_err-kind-items c = grind (arith, common_steps) steps 2000000

pub returns-in-Transfer-2 : goal.returns-in-Transfer-2
returns-in-Transfer-2 c = grind (arith, common_steps) steps 2000000

pub loop-kind-preserved : goal.loop-kind-preserved
loop-kind-preserved c = grind (arith, common_steps) steps 2000000

pub loop-kind-init : goal.loop-kind-init
loop-kind-init c = grind (arith, common_steps) steps 2000000

pub returns : goal.returns
returns c = grind (arith, common_steps) steps 2000000

pub returns-in-Transfer-3 : goal.returns-in-Transfer-3
returns-in-Transfer-3 c = grind (arith, common_steps) steps 2000000

pub overflow_add-pc : goal.overflow_add-pc
overflow_add-pc c = grind (arith, common_steps)
