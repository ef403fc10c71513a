use Rattle.kernel_code.proofs.Whole.{code_follows_law}
use Rattle.kernel_code.proofs.laws.code_follows_its_kernel.Goals as goal

pub returns : goal.returns
returns c = code_follows_law
