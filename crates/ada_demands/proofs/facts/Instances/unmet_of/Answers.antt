use Rattle.std.proofs.Common.{arith}
use Rattle.std.proofs.lemmas.Grind.{common_steps}
use Rattle.ada_demands.proofs.facts.Instances.unmet_of.Goals as goal

pub returns-then-not-branch : goal.returns-then-not-branch
returns-then-not-branch c = grind (arith, common_steps)

pub loop-demand-preserved : goal.loop-demand-preserved
loop-demand-preserved c = grind (arith, common_steps)
