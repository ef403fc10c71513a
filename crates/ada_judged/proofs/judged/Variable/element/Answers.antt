use Rattle.std.proofs.Common.{sym, ap, ◌∙◌, option_map}
use Rattle.ada_entities.specs.Tables.{array_parts, parts_of}
use Rattle.ada_entities.specs.Views.{type_of}
use Rattle.ada_judged.specs.JudgedView.{variable_of, judged_of}
use Rattle.ada_judged.specs.PartViews.{element_by}
use Rattle.ada_judged.proofs.Elements.{element_is}
use Rattle.ada_judged.proofs.Tests.{ok_then}
use Rattle.ada_judged.proofs.judged.Variable.element.Goals as goal

pub returns : goal.returns
returns c =
    let of = c.args.self.subtype.of in
    ok_then _ _ c.element_with.result
    (λ x own k h.
    let parts = ap (λ t. option_map (parts_of t) c.array_of-parts.result) h ∙ (c.array_of-parts.ensures ∙ ap (λ t. array_parts (type_of t of)) (sym h)) in
    own k ∙ (ap (λ p. element_by (variable_of k c.args.self) (judged_of k c.args.index) p) parts
    ∙ element_is (variable_of k c.args.self) (type_of k.types of) (judged_of k c.args.index)))
    c.element_with.ensures
