use Rattle.std.proofs.Common.{arith}
use Rattle.std.proofs.lemmas.Grind.{common_steps}
use Rattle.codegen_rv32.proofs.pieces.put_bodies.Goals as goal

pub loop-body-preserved : goal.loop-body-preserved
loop-body-preserved c = grind (arith, common_steps)

pub returns : goal.returns
returns c = grind (arith, common_steps)
