use Rattle.std.proofs.Common.{sym, ap, ◌∙◌}
use Rattle.ada_rules.specs.Environment.{given}
use Rattle.program_walk.specs.ada_demands.specs.StaticsViews.{noted}
use Rattle.declarations.proofs.constants.entered.Goals as goal

pub returns : goal.returns
returns c k s = c.in_ok-name.ensures k s ∙ ap (λ e. given e (noted k c.enter_constant.new.self s)) (sym c.own.ensures)
