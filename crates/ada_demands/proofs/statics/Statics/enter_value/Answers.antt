use Rattle.std.proofs.Common.{sym, ap, ◌∙◌}
use Rattle.std.proofs.lemmas.Result.{IfOk-weaker}
use Rattle.ada_tree.specs.View.{static_of}
use Rattle.ada_rules.specs.Expressions.{entered_constant}
use Rattle.ada_demands.specs.StaticsViews.{noted}
use Rattle.ada_demands.proofs.statics.Statics.enter_value.Goals as goal

pub returns : goal.returns
returns c =
    IfOk-weaker c.enter_constant.result _ _
    (λ v h k s. ap (λ r. entered_constant c.args.generic r (static_of c.args.value) (noted k c.args.self.now s)) (sym c.base_range.ensures) ∙ h k s)
    c.enter_constant.ensures
