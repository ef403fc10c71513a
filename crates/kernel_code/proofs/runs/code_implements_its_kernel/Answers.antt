use Rattle.kernel_code.proofs.Implements.{code_implements}
use Rattle.kernel_code.proofs.Whole.{code_follows_law}
use Rattle.kernel_code.proofs.runs.code_implements_its_kernel.Goals as goal

pub returns : goal.returns
returns c = code_implements code_follows_law
