use Rattle.std.proofs.Common.{arith}
use Rattle.kernel_code.proofs.Lines.{lines_push}
use Rattle.kernel_code.proofs.emitter.Emitter.put.Goals as goal

pub returns : goal.returns
returns c = grind (arith, lines_push)
