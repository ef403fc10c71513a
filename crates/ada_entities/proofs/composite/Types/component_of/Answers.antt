use Rattle.std.proofs.Common.{sym, ap, option_map, ◌∙◌}
use Rattle.ada_tree.specs.View.{owner_of}
use Rattle.ada_rules.specs.Denoted.{field_among}
use Rattle.ada_entities.specs.Views.{identity_of, shape_at, type_of}
use Rattle.ada_entities.specs.Tables.{field_in, seen_field, shape_fields}
use Rattle.ada_entities.specs.TypeTable.{tables}
use Rattle.ada_entities.proofs.LookupLaws.{field_seen}
use Rattle.ada_entities.proofs.composite.Types.component_of.Goals as goal

pub returns-in-Composite : goal.returns-in-Composite
returns-in-Composite c =
    let k = tables c.args.self.now in
    let t = c.in-Composite.composite in
    let name = c.args.name.now in
    let fields = c.record_definition-components.ensures k ∙ ap shape_fields (sym c.definition.ensures) in
    c.component_seen.ensures
    ∙ (ap (λ o. option_map (seen_field k (owner_of t.seen)) o) (c.component_named.ensures k ∙ ap (λ fs. field_among name 0 fs) fields)
    ∙ (field_seen k (owner_of t.seen) (identity_of t.identity) name (shape_at k t.number) ∙ ap (λ x. field_in name (type_of k x)) (sym c.in-Composite.is)))
