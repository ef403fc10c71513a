use Rattle.std.proofs.Common.{◌∙◌}
use Rattle.xcov_report.proofs.Telling.{has_least}
use Rattle.xcov_report.proofs.obligations.has_pair.Goals as goal

pub returns-then-c-conditions : goal.returns-then-c-conditions
returns-then-c-conditions c =
    λ e is. c.is_some.ensures
    ∙ has_least c.args.level e c.args.vectors.now c.args.c c.shown_pair.result (c.shown_pair.ensures e is)
