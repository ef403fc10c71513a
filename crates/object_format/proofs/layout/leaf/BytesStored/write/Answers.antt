use Rattle.std.proofs.Common.{arith}
use Rattle.std.proofs.lemmas.Grind.{common_steps}
use Rattle.spelling.specs.Format.{word}
use Rattle.object_format.proofs.layout.leaf.BytesStored.write.Goals as goal

pub returns-clause-appends : goal.returns-clause-appends
unfolding word
returns-clause-appends c = grind (arith, common_steps)
