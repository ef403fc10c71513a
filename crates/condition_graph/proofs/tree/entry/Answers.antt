use Rattle.std.proofs.Common.{arith}
use Rattle.std.proofs.lemmas.Grind.{common_steps}
use Rattle.condition_graph.proofs.tree.entry.Goals as goal

pub returns-then-is_node-2-clause-first : goal.returns-then-is_node-2-clause-first
returns-then-is_node-2-clause-first c = grind (arith, common_steps) steps 2000000

pub returns-then-is_node-clause-first : goal.returns-then-is_node-clause-first
returns-then-is_node-clause-first c = grind (arith, common_steps) steps 2000000

pub loop-number-preserved : goal.loop-number-preserved
loop-number-preserved c = grind (arith, common_steps) steps 2000000
