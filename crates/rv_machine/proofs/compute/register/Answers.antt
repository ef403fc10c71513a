use Rattle.std.proofs.Common.{arith}
use Rattle.std.proofs.lemmas.Grind.{common_steps}
use Rattle.rv_machine.proofs.compute.register.Goals as goal

pub overflow_mul-from : goal.overflow_mul-from
overflow_mul-from c = grind (arith, common_steps) steps 2000000

pub returns-in-Div-2 : goal.returns-in-Div-2
returns-in-Div-2 c = grind (arith, common_steps)

pub returns-in-Mulhsu : goal.returns-in-Mulhsu
returns-in-Mulhsu c = grind (arith, common_steps)
