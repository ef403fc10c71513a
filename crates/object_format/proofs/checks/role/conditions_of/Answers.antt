use Rattle.std.proofs.Common.{arith}
use Rattle.std.proofs.lemmas.Grind.{common_steps}
use Rattle.object_format.proofs.checks.role.conditions_of.Goals as goal

pub loop-role-preserved : goal.loop-role-preserved
loop-role-preserved c = grind (arith, common_steps)

pub returns : goal.returns
returns c = grind (arith, common_steps)
