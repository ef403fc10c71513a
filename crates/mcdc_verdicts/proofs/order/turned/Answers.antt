use Rattle.mcdc_verdicts.proofs.Marking.{turned-bit}
use Rattle.mcdc_verdicts.proofs.order.turned.Goals as goal

pub returns : goal.returns
returns c = λ k. turned-bit c.args.v c.args.w k
