use Rattle.std.proofs.Common.{sym}
use Rattle.kernel_ir.proofs.Joining.{joined_nothing}
use Rattle.lower.proofs.compound.put_own_start.Goals as goal

pub returns-in-Block : goal.returns-in-Block
returns-in-Block c = rw c.in-Block.is (sym (joined_nothing c.args.code.now))
