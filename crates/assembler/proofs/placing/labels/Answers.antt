use Rattle.std.proofs.Common.{arith}
use Rattle.std.proofs.lemmas.Grind.{common_steps}
use Rattle.assembler.proofs.placing.labels.Goals as goal

pub overflow_mul-address : goal.overflow_mul-address
overflow_mul-address c = grind (arith, common_steps) steps 2000000

pub loop-piece-preserved : goal.loop-piece-preserved
loop-piece-preserved c = grind (arith, common_steps) steps 2000000

pub returns : goal.returns
returns c = grind (arith, common_steps) steps 2000000

pub word_count-requires : goal.word_count-requires
word_count-requires c = grind (arith, common_steps) steps 2000000

pub overflow_add-address : goal.overflow_add-address
overflow_add-address c = grind (arith, common_steps) steps 2000000

pub labels_of-requires : goal.labels_of-requires
labels_of-requires c = grind (arith, common_steps) steps 2000000
