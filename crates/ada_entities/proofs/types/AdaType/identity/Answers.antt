use Rattle.std.proofs.Common.{sym, ap, ◌∙◌}
use Rattle.ada_rules.specs.Types as rules
use Rattle.ada_tree.specs.View.{owner_of}
use Rattle.ada_entities.specs.Views.{identity_of, shape_at, type_of}
use Rattle.ada_entities.proofs.SeenLaws.{composite_identity}
use Rattle.ada_entities.proofs.types.AdaType.identity.Goals as goal

pub returns-in-Composite : goal.returns-in-Composite
returns-in-Composite c k =
    let t = c.in-Composite.composite in
    c.identity-in-Composite.ensures
    ∙ (composite_identity k (owner_of t.seen) (identity_of t.identity) (shape_at k t.number)
    ∙ ap (λ x. rules.identity_of (type_of k x)) (sym c.in-Composite.is))
