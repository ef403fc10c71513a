use Rattle.std.proofs.Common.{arith}
use Rattle.std.proofs.lemmas.Grind.{common_steps}
use Rattle.object_format.proofs.checks.decision.are_expressions.Goals as goal

pub returns-then-not-are_expression : goal.returns-then-not-are_expression
returns-then-not-are_expression c = grind (arith, common_steps) steps 2000000

pub loop-decision-preserved : goal.loop-decision-preserved
loop-decision-preserved c = grind (arith, common_steps) steps 2000000

pub returns : goal.returns
returns c = grind (arith, common_steps) steps 2000000
