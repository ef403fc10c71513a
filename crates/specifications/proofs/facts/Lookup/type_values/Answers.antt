use Rattle.std.proofs.Common.{ap, ◌∙◌}
use Rattle.std.proofs.lemmas.Result.{IfOk-weaker}
use Rattle.ada_rules.specs.Instances as rules
use Rattle.specifications.proofs.facts.Lookup.type_values.Goals as goal

pub returns : goal.returns
returns c =
    IfOk-weaker c.values-2.result _ _
    (λ r h k b. h k b ∙ ap (rules.values_of c.args.self.now.instances.now) (c.values.ensures k ∙ c.in_ok-of.ensures)) c.values-2.ensures
