use Rattle.std.proofs.Common.{sym, ◌∙◌}
use Rattle.std.proofs.lemmas.Result.{IfOk-weaker}
use Rattle.ada_demands.specs.StaticsViews.{noted}
use Rattle.ada_demands.proofs.NamedLaws.{own_named, other_named}
use Rattle.ada_demands.proofs.statics.Statics.expression_named.Goals as goal

pub returns-in-Some : goal.returns-in-Some
returns-in-Some c k s =
    own_named c.args.generic c.args.value c.in-Some.value (noted k c.args.self.now s) (sym c.own_value.ensures ∙ c.in-Some.is)

pub returns-in-None : goal.returns-in-None
returns-in-None c =
    IfOk-weaker c.enter_value.result _ _
    (λ v h k s. other_named c.args.generic c.args.value (noted k c.args.self.now s) (sym c.own_value.ensures ∙ c.in-None.is) ∙ h k s)
    c.enter_value.ensures
