use Rattle.std.proofs.Common.{arith}
use Rattle.std.proofs.lemmas.Grind.{common_steps}
use Rattle.exemptions.proofs.mark.said.Goals as goal

pub loop-byte-preserved-then-byte-eq34 : goal.loop-byte-preserved-then-byte-eq34
loop-byte-preserved-then-byte-eq34 c = grind (arith, common_steps) steps 2000000

pub loop-byte-preserved : goal.loop-byte-preserved
loop-byte-preserved c = grind (arith, common_steps) steps 2000000
