use Rattle.std.proofs.Common.{sym, ap, ◌∙◌, option_map}
use Rattle.ada_tree.specs.View.{scalar_range_of}
use Rattle.ada_rules.specs.Denoted.{static_attribute, object_attribute, attribute_of_type, attribute_of}
use Rattle.ada_entities.specs.Views.{type_of}
use Rattle.ada_entities.specs.Tables.{array_parts, parts_of}
use Rattle.ada_judged.specs.JudgedView.{variable_of}
use Rattle.ada_phrases.specs.Attributes.{value_and_kind, extent_in}
use Rattle.ada_phrases.specs.DenotedView.{denotes}
use Rattle.ada_phrases.proofs.Local.{object_extent}
use Rattle.ada_phrases.proofs.names.Denoted.attribute.Goals as goal

pub returns-in-Mark : goal.returns-in-Mark
returns-in-Mark c k h =
    let name = c.args.name.now in
    let t = c.in-Mark.subtype in
    let r = scalar_range_of t.range in
    c.static_attribute.ensures k
    ∙ (ap (option_map static_attribute)
    (ap (λ x. option_map (value_and_kind x) c.attribute_of_type.result) h
    ∙ (c.attribute_of_type.ensures ∙ ap (λ x. attribute_of_type name (type_of x t.of) r) (sym h)))
    ∙ ap (λ d. attribute_of name (denotes k d)) (sym c.in-Mark.is))

pub returns-in-Variable : goal.returns-in-Variable
returns-in-Variable c k h =
    let name = c.args.name.now in
    let v = c.in-Variable.variable in
    let parts = ap (λ x. option_map (parts_of x) c.array_of-parts.result) h
    ∙ (c.array_of-parts.ensures ∙ ap (λ x. array_parts (type_of x v.subtype.of)) (sym h)) in
    c.object_attribute.ensures k
    ∙ (ap (option_map (object_attribute (variable_of k v)))
    (c.attribute_of_array.ensures k.types ∙ (ap (extent_in name) parts ∙ object_extent name (type_of k.types v.subtype.of)))
    ∙ ap (λ d. attribute_of name (denotes k d)) (sym c.in-Variable.is))
