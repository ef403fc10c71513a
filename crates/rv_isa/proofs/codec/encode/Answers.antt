use Rattle.std.proofs.Common.{arith}
use Rattle.rv_isa.proofs.Laws.{again}
use Rattle.rv_isa.proofs.codec.encode.Goals as goal

pub returns-clause-again : goal.returns-clause-again
returns-clause-again c = grind (arith, again)
