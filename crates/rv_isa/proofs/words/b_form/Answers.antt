use Rattle.std.proofs.Common.{arith}
use Rattle.std.proofs.lemmas.Grind.{common_steps}
use Rattle.rv_isa.proofs.words.b_form.Goals as goal

pub r_form-requires-clause-funct7 : goal.r_form-requires-clause-funct7
r_form-requires-clause-funct7 c = grind (arith, common_steps) steps 2000000

pub overflow_cast-low : goal.overflow_cast-low
overflow_cast-low c = grind (arith, common_steps) steps 2000000

pub returns : goal.returns
returns c = grind (arith, common_steps) steps 2000000

pub r_form-requires-clause-rd : goal.r_form-requires-clause-rd
r_form-requires-clause-rd c = grind (arith, common_steps) steps 2000000
