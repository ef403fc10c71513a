use Rattle.std.proofs.Common.{arith}
use Rattle.kernel_code.proofs.Lines.{lines_assoc}
use Rattle.kernel_code.proofs.emitter.Emitter.bound_exception.Goals as goal

pub returns : goal.returns
returns c = grind (arith, lines_assoc)
