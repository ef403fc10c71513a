use Rattle.std.proofs.Common.{arith}
use Rattle.rv_isa.proofs.Laws.{none_from}
use Rattle.rv_isa.proofs.codec.decode.Goals as goal

pub returns-clause-none : goal.returns-clause-none
returns-clause-none c = grind (arith, none_from)
