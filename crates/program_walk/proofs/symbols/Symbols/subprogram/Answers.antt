use Rattle.std.proofs.Common.{arith}
use Rattle.program_walk.proofs.ChangeLaws.{numbered}
use Rattle.program_walk.proofs.symbols.Symbols.subprogram.Goals as goal

pub returns : goal.returns
returns c = numbered c.args.self.now c.args.number c.get.result (omega arith) c.get.ensures
