use Rattle.std.proofs.Common.{map, sym, ap, ◌∙◌}
use Rattle.ada_rules.specs.Denoted.{applied_to, conversion_of, element_of}
use Rattle.ada_rules.specs.Types.{type_in}
use Rattle.ada_entities.specs.Views.{identity_of, subtype_of}
use Rattle.ada_judged.proofs.Tests.{ok_then}
use Rattle.ada_judged.specs.JudgedView.{variable_of, judged_of}
use Rattle.ada_phrases.specs.Applied.{where_single}
use Rattle.ada_phrases.specs.DenotedView.{denotes}
use Rattle.ada_phrases.proofs.Local.{single_mark, single_index, other_applied}
use Rattle.ada_phrases.proofs.names.Denoted.applied.Goals as goal

pub returns-in-Routine : goal.returns-in-Routine
returns-in-Routine c =
    ok_then _ _ c.called.result
    (λ o p k env h. p k env h ∙ ap (λ d. applied_to (denotes k d) (map (judged_of k) c.args.values.items)) (sym c.in-Routine.is))
    c.called.ensures

pub returns-in-Mark : goal.returns-in-Mark
returns-in-Mark c =
    ok_then _ _ c.converted.result
    (λ o p k env h.
    let xs = map (judged_of k) c.args.values.items in
    let t = subtype_of k.types c.in-Mark.subtype in
    p k ∙ (ap (where_single (conversion_of t)) (c.single.ensures k)
    ∙ (single_mark (identity_of c.in-Mark.field-0) t xs ∙ ap (λ d. applied_to (denotes k d) xs) (sym c.in-Mark.is))))
    c.converted.ensures

pub returns-in-Variable : goal.returns-in-Variable
returns-in-Variable c =
    ok_then _ _ c.element.result
    (λ o p k env h.
    let xs = map (judged_of k) c.args.values.items in
    let v = variable_of k c.in-Variable.variable in
    p k h.units.typed ∙ (ap (where_single (element_of v (type_in v.subtype))) (c.single-in-Variable.ensures k)
    ∙ (single_index v xs ∙ ap (λ d. applied_to (denotes k d) xs) (sym c.in-Variable.is))))
    c.element.ensures

pub returns-in_default : goal.returns-in_default
returns-in_default c k env h =
    other_applied k c.args.self (map (judged_of k) c.args.values.items) c.in_default.not-Mark c.in_default.not-Variable c.in_default.not-Routine
