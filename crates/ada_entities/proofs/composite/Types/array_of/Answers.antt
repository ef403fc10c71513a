use Rattle.std.proofs.Common.{sym, ap, ◌∙◌}
use Rattle.ada_tree.specs.View.{owner_of}
use Rattle.ada_entities.specs.Views.{identity_of, shape_at, type_of}
use Rattle.ada_entities.specs.Tables.{array_parts, shape_parts}
use Rattle.ada_entities.specs.TypeTable.{tables}
use Rattle.ada_entities.proofs.LookupLaws.{array_seen}
use Rattle.ada_entities.proofs.composite.Types.array_of.Goals as goal

pub returns-in-Composite : goal.returns-in-Composite
returns-in-Composite c =
    let k = tables c.args.self.now in
    let t = c.in-Composite.composite in
    let parts = c.array_definition-parts.ensures k ∙ ap shape_parts (sym c.definition.ensures) in
    c.parts_seen.ensures
    ∙ (array_seen k (owner_of t.seen) (identity_of t.identity) (shape_at k t.number) _ parts ∙ ap (λ x. array_parts (type_of k x)) (sym c.in-Composite.is))
