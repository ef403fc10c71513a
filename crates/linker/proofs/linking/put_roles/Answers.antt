use Rattle.std.proofs.Common.{arith}
use Rattle.std.proofs.lemmas.Grind.{common_steps}
use Rattle.linker.proofs.linking.put_roles.Goals as goal

pub returns : goal.returns
returns c = grind (arith, common_steps) steps 2000000

pub loop-mark-preserved : goal.loop-mark-preserved
loop-mark-preserved c = grind (arith, common_steps) steps 2000000
