use Rattle.mcdc_verdicts.proofs.Marking.{differing-bit}
use Rattle.mcdc_verdicts.proofs.order.differing.Goals as goal

pub returns : goal.returns
returns c = λ k. differing-bit c.args.v c.args.w k
