use Rattle.std.proofs.Common.{ap, ◌∙◌}
use Rattle.ada_entities.specs.ada_rules.specs.Denoted.{test_of_expr}
use Rattle.ada_judged.proofs.Tests.{other_condition}
use Rattle.ada_judged.proofs.logic.+test_of_expr.Goals as goal

pub returns-in_default : goal.returns-in_default
returns-in_default t c =
    c.condition.ensures
    ∙ (other_condition c.args.at c.into_kind.result c.into_kind.ensures.chain c.in_default.not-Complement ∙ ap (λ e. test_of_expr c.args.at e) c.into_kind.ensures.form)
