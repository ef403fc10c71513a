use Rattle.std.proofs.Common.{◌∙◌}
use Rattle.annotated_report.proofs.Halving.{held_by}
use Rattle.annotated_report.proofs.regions.Regions.hold.Goals as goal

pub returns : goal.returns
returns c = c.is_some.ensures ∙ held_by (λ region. region.now) c.round.result c.args.pos c.args.self.now c.round.ensures
