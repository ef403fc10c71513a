use Rattle.std.proofs.Common.{arith}
use Rattle.std.proofs.lemmas.Grind.{common_steps}
use Rattle.condition_graph.proofs.reading.Reading.begin.Goals as goal

pub returns-in_ok-push-in-32 : goal.returns-in_ok-push-in-32
returns-in_ok-push-in-32 c = grind (arith, common_steps) steps 2000000

pub returns-in_ok-push-in_default : goal.returns-in_ok-push-in_default
returns-in_ok-push-in_default c = grind (arith, common_steps) steps 2000000
