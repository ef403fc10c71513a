use Rattle.std.proofs.Common.{◌<◌, sym, arith}
use Rattle.cov_base.specs.Marks.{marks}
use Rattle.mcdc_verdicts.proofs.Ordering.{no_difference, first_difference}
use Rattle.mcdc_verdicts.proofs.order.precedes.Goals as goal

pub returns-then-differing-eq0 : goal.returns-then-differing-eq0
returns-then-differing-eq0 c =
    sym (no_difference c.differing-differing.result (marks c.args.v) (marks c.args.w) c.differing-differing.ensures c.if-differing-eq0.true)

pub returns-else-differing-eq0 : goal.returns-else-differing-eq0
returns-else-differing-eq0 c =
    let some : 0 < c.differing-differing.result = omega arith in
    let e = first_difference c.differing-differing.result (marks c.args.v) (marks c.args.w) c.differing-differing.ensures some c.differing-differing.type_inv in
    cc
