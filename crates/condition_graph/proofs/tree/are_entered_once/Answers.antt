use Rattle.std.proofs.Common.{arith}
use Rattle.std.proofs.lemmas.Grind.{common_steps}
use Rattle.condition_graph.proofs.tree.are_entered_once.Goals as goal

pub returns-then-not-is_first : goal.returns-then-not-is_first
returns-then-not-is_first c = grind (arith, common_steps) steps 2000000

pub loop-number-preserved : goal.loop-number-preserved
loop-number-preserved c = grind (arith, common_steps) steps 2000000
