use Rattle.std.proofs.Common.{arith}
use Rattle.std.proofs.lemmas.Grind.{common_steps}
use Rattle.ada_library.proofs.dependencies.add_all_named.Goals as goal

pub returns : goal.returns
returns c = grind (arith, common_steps)

pub loop-identifier-preserved : goal.loop-identifier-preserved
loop-identifier-preserved c = grind (arith, common_steps)
