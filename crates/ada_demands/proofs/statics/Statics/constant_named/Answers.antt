use Rattle.std.proofs.Common.{sym, ap, ◌∙◌}
use Rattle.std.proofs.lemmas.Result.{IfOk-weaker}
use Rattle.ada_rules.specs.Expressions.{value_named}
use Rattle.ada_demands.specs.StaticsViews.{noted}
use Rattle.ada_demands.proofs.statics.Statics.constant_named.Goals as goal

pub returns-in-Some : goal.returns-in-Some
returns-in-Some c =
    IfOk-weaker c.expression_named.result _ _
    (λ v h k s. ap (λ e. value_named c.args.generic e (noted k c.args.self.now s)) (sym c.in-Some.ensures) ∙ h k s)
    c.expression_named.ensures
