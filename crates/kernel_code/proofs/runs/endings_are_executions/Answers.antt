use Rattle.kernel_code.proofs.Implements.{endings_are_executions as executions_law}
use Rattle.kernel_code.proofs.runs.endings_are_executions.Goals as goal

pub returns : goal.returns
returns c = executions_law
