use Rattle.kernel_code.proofs.Implements.{following_implements}
use Rattle.kernel_code.proofs.runs.following_runs_implement.Goals as goal

pub returns : goal.returns
returns c = following_implements
