use Rattle.std.proofs.Common.{arith}
use Rattle.std.proofs.lemmas.Grind.{common_steps}
use Rattle.rv_machine.proofs.compute.shift.Goals as goal

pub returns-in-Srai : goal.returns-in-Srai
returns-in-Srai c = grind (arith, common_steps)
