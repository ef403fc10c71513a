use Rattle.std.proofs.Common.{arith}
use Rattle.std.proofs.lemmas.Grind.{common_steps}
use Rattle.object_format.proofs.layout.coverage.put_conditions.Goals as goal

pub returns-clause-appends : goal.returns-clause-appends
returns-clause-appends c = grind (arith, common_steps) steps 2000000

pub returns-clause-fits : goal.returns-clause-fits
returns-clause-fits c = grind (arith, common_steps)
