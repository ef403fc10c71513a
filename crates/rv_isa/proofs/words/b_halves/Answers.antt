use Rattle.std.proofs.Common.{arith}
use Rattle.std.proofs.lemmas.Grind.{common_steps}
use Rattle.rv_isa.proofs.words.b_halves.Goals as goal

pub overflow_cast-high : goal.overflow_cast-high
overflow_cast-high c = grind (arith, common_steps) steps 2000000
