use Rattle.std.proofs.Common.{arith}
use Rattle.std.proofs.lemmas.Grind.{common_steps}
use Rattle.generic_expand.proofs.expansion.generic_nodes.Goals as goal

pub loop-unit-preserved : goal.loop-unit-preserved
loop-unit-preserved c = grind (arith, common_steps) steps 2000000

pub returns-in-None-clause-past : goal.returns-in-None-clause-past
returns-in-None-clause-past c = grind (arith, common_steps) steps 2000000
