use Rattle.std.proofs.Common.{sym, ap, ◌∙◌}
use Rattle.ada_rules.specs.Entities.{type_seen}
use Rattle.ada_entities.specs.Views.{actuals_of, type_of}
use Rattle.ada_entities.specs.TypeTable.{tables}
use Rattle.ada_entities.proofs.composite.Types.type_seen.Goals as goal

pub returns-in-Composite : goal.returns-in-Composite
returns-in-Composite c =
    let k = tables c.args.self.now in
    c.seen.ensures k ∙ ap (λ t. type_seen c.args.instance (actuals_of k c.args.instance) (type_of k t)) (sym c.in-Composite.is)
