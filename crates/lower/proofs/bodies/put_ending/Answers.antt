use Rattle.std.proofs.Common.{sym, ap, ◌∙◌}
use Rattle.kernel_ir.specs.Sequence.{joined}
use Rattle.kernel_ir.proofs.Joining.{joined_nothing}
use Rattle.statement_code.specs.Bodies.{ending_code}
use Rattle.lower.proofs.bodies.put_ending.Goals as goal

pub returns : goal.returns
returns c = sym (joined_nothing c.args.code.now) ∙ ap (λ g. joined c.args.code.now (ending_code g)) (sym c.if-gives.false)
