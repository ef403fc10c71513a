use Rattle.std.proofs.Common.{sym}
use Rattle.kernel_ir.proofs.Joining.{joined_nothing}
use Rattle.lower.proofs.procedures.put_copied.Goals as goal

pub returns-in-In : goal.returns-in-In
returns-in-In c = rw c.in-In.is (sym (joined_nothing c.args.code.now))
