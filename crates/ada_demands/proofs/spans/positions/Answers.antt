use Rattle.std.proofs.Common.{arith}
use Rattle.std.proofs.lemmas.Grind.{common_steps}
use Rattle.ada_demands.proofs.spans.positions.Goals as goal

pub returns-clause-values : goal.returns-clause-values
returns-clause-values c = grind (arith, common_steps)
