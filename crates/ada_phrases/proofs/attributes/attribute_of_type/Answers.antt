use Rattle.std.proofs.Common.{sym, ap, ◌∙◌}
use Rattle.ada_tree.specs.View.{owner_of, scalar_range_of}
use Rattle.ada_rules.specs.Denoted.{attribute_of_type}
use Rattle.ada_entities.specs.Views.{identity_of, shape_at, type_of}
use Rattle.ada_entities.specs.Tables.{array_parts}
use Rattle.ada_entities.specs.TypeTable.{tables}
use Rattle.ada_phrases.specs.Attributes.{extent_in}
use Rattle.ada_phrases.proofs.Local.{composite_attribute}
use Rattle.ada_phrases.proofs.attributes.attribute_of_type.Goals as goal

pub returns-in-Composite : goal.returns-in-Composite
returns-in-Composite c =
    let k = tables c.args.types.now in
    let name = c.args.name.now in
    let x = c.in-Composite.field-0 in
    let r = scalar_range_of c.args.subtype.range in
    c.attribute_of_array.ensures k
    ∙ (ap (extent_in name) c.array_of.ensures ∙ (ap (λ t. extent_in name (array_parts (type_of k t))) c.in-Composite.is
    ∙ (composite_attribute name k (owner_of x.seen) (identity_of x.identity) (shape_at k x.number) r
    ∙ ap (λ t. attribute_of_type name (type_of k t) r) (sym c.in-Composite.is))))
