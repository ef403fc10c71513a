use Rattle.std.proofs.Common.{sym, ap, ◌∙◌}
use Rattle.ada_rules.specs.Entities.{type_seen}
use Rattle.ada_entities.specs.Views.{scalar_type_of}
use Rattle.specifications.specs.Actuals.{actuals_of}
use Rattle.specifications.proofs.instantiation.Instantiation.scalar_seen.Goals as goal

pub returns-in-Formal : goal.returns-in-Formal
returns-in-Formal c k =
    c.given.ensures k
    ∙ ap (λ t. type_seen c.args.self.now.number (actuals_of k c.args.self.now.actuals.now) (scalar_type_of t)) (sym c.in-Formal.is)
