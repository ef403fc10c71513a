use Rattle.std.proofs.Common.{arith}
use Rattle.std.proofs.lemmas.Grind.{common_steps}
use Rattle.object_format.proofs.layout.list.SeqStored.read.Goals as goal

pub returns : goal.returns
returns c = grind (arith, common_steps)
