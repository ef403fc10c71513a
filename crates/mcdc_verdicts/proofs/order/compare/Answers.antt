use Rattle.std.proofs.Common.{sym, ◌∙◌}
use Rattle.cov_base.specs.Marks.{marks}
use Rattle.mcdc_verdicts.proofs.Searching.{one_way}
use Rattle.mcdc_verdicts.proofs.order.compare.Goals as goal

pub returns-then-precedes-clause-greater : goal.returns-then-precedes-clause-greater
returns-then-precedes-clause-greater c =
    sym (one_way (marks c.args.v) (marks c.args.w) (sym c.precedes.ensures ∙ c.if-precedes.true))
