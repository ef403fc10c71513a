use Rattle.std.proofs.Common.{arith}
use Rattle.std.proofs.lemmas.Grind.{common_steps}
use Rattle.assembler.proofs.placing.place.Goals as goal

pub loop-own-preserved : goal.loop-own-preserved
loop-own-preserved c = grind (arith, common_steps) steps 2000000

pub overflow_mul-address : goal.overflow_mul-address
overflow_mul-address c = grind (arith, common_steps) steps 2000000

pub put_items-requires-clause-in_reach : goal.put_items-requires-clause-in_reach
put_items-requires-clause-in_reach c = grind (arith, common_steps) steps 2000000

pub returns-clause-placed : goal.returns-clause-placed
returns-clause-placed c = grind (arith, common_steps) steps 2000000

pub overflow_add-address : goal.overflow_add-address
overflow_add-address c = grind (arith, common_steps) steps 2000000

pub returns-clause-fits : goal.returns-clause-fits
returns-clause-fits c = grind (arith, common_steps) steps 2000000

pub put_items-requires-clause-within : goal.put_items-requires-clause-within
put_items-requires-clause-within c = grind (arith, common_steps) steps 2000000

pub word_count-requires : goal.word_count-requires
word_count-requires c = grind (arith, common_steps) steps 2000000
