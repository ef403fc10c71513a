use Rattle.std.proofs.Common.{sym, ap, ◌∙◌}
use Rattle.ada_rules.specs.Instances as rules
use Rattle.ada_rules.specs.Statics.{type_fact}
use Rattle.specifications.specs.Actuals.{actual_of}
use Rattle.specifications.proofs.facts.Lookup.fact.Goals as goal

pub returns-in_ok-values-in-Type : goal.returns-in_ok-values-in-Type
returns-in_ok-values-in-Type c known k b spans =
    (λ z. type_fact (c.bounds.ensures z) (c.in_ok-values-in-Type.ensures k spans z))
    ∙ ap (λ a. rules.fact_of c.args.self.now.instances.now (actual_of k a)) (sym c.in-Type.is)
