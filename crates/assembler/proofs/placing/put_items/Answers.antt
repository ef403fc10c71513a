use Rattle.std.proofs.Common.{arith}
use Rattle.std.proofs.lemmas.Grind.{common_steps}
use Rattle.assembler.proofs.placing.put_items.Goals as goal

pub returns-clause-fits : goal.returns-clause-fits
returns-clause-fits c = grind (arith, common_steps) steps 2000000

pub overflow_add-at : goal.overflow_add-at
overflow_add-at c = grind (arith, common_steps) steps 2000000

pub put_item-requires : goal.put_item-requires
put_item-requires c = grind (arith, common_steps) steps 2000000

pub loop-item-preserved : goal.loop-item-preserved
loop-item-preserved c = grind (arith, common_steps) steps 2000000

pub returns-clause-appends : goal.returns-clause-appends
returns-clause-appends c = grind (arith, common_steps) steps 2000000
