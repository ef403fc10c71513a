use Rattle.std.proofs.Common.{sym, ap, ◌∙◌}
use Rattle.kernel_ir.specs.Sequence.{joined}
use Rattle.kernel_ir.proofs.Joining.{joined_nothing}
use Rattle.lower.proofs.Entered.{given_already}
use Rattle.lower.proofs.bodies.put_scalar_parameter.Goals as goal

pub returns : goal.returns
returns c = sym (joined_nothing c.args.code.now) ∙ ap (joined c.args.code.now) (given_already c.args.slot c.args.mode _ c.in_default.not-Out)
