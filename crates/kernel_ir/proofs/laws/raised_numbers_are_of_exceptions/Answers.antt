use Rattle.kernel_ir.proofs.Numbers.{exec_raises}
use Rattle.kernel_ir.proofs.laws.raised_numbers_are_of_exceptions.Goals as goal

pub returns : goal.returns
returns c = exec_raises
