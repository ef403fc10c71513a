use Rattle.std.proofs.Common.{arith}
use Rattle.std.proofs.lemmas.Grind.{common_steps}
use Rattle.kernel_code.proofs.Lines.{lines_assoc}
use Rattle.codegen_rv32.proofs.parts.put_start.Goals as goal

pub returns : goal.returns
returns c = grind (arith, common_steps, lines_assoc)
