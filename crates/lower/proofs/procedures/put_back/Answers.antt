use Rattle.std.proofs.Common.{sym}
use Rattle.kernel_ir.proofs.Joining.{joined_nothing}
use Rattle.lower.proofs.procedures.put_back.Goals as goal

pub returns-in-Expression : goal.returns-in-Expression
returns-in-Expression c = rw c.in-Expression.is (sym (joined_nothing c.args.code.now))
