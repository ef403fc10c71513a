use Rattle.std.proofs.Common.{arith}
use Rattle.std.proofs.lemmas.Grind.{common_steps}
use Rattle.mcdc_verdicts.proofs.edges.takes_edge.Goals as goal

pub returns : goal.returns
returns c = grind (arith, common_steps) steps 2000000

pub returns-then-is_path : goal.returns-then-is_path
returns-then-is_path c = grind (arith, common_steps) steps 2000000

pub loop-v-preserved : goal.loop-v-preserved
loop-v-preserved c = grind (arith, common_steps) steps 2000000
