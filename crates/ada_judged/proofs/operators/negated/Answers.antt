use Rattle.std.proofs.Common.{ap, ◌∙◌}
use Rattle.ada_entities.specs.ada_rules.specs.Denoted.{negated}
use Rattle.ada_judged.proofs.Tests.{other_negated, is_then}
use Rattle.ada_judged.proofs.operators.negated.Goals as goal

pub returns-in_default : goal.returns-in_default
returns-in_default c =
    let same = other_negated c.into_kind.result c.into_kind.ensures.chain c.in_default.not-Negation ∙ ap negated c.into_kind.ensures.form in
    is_then c.negation.result _ _ same c.negation.ensures
