use Rattle.std.proofs.Common.{arith}
use Rattle.std.proofs.lemmas.Grind.{common_steps}
use Rattle.lower.proofs.kernels.lower.Goals as goal

pub returns-clause-kernel : goal.returns-clause-kernel
returns-clause-kernel c = grind (arith, common_steps)

pub returns-clause-words : goal.returns-clause-words
returns-clause-words c = grind (arith, common_steps)
