use Rattle.std.proofs.Common.{sym, ap, ◌∙◌}
use Rattle.ada_tree.specs.View.{owner_of}
use Rattle.ada_rules.specs.Denoted.{passed_as}
use Rattle.ada_entities.specs.Views.{subtype_of, subtype_by}
use Rattle.ada_entities.specs.RoutineViews.{parameter_of}
use Rattle.ada_judged.specs.JudgedView.{judged_of}
use Rattle.ada_phrases.specs.Actuals.{parameter_as}
use Rattle.ada_phrases.proofs.Local.{parameter_subtype, parameter_mode, next_actual}
use Rattle.ada_phrases.proofs.actuals.next_actual.Goals as goal

pub returns-in-Some : goal.returns-in-Some
returns-in-Some c k qs h =
    let o = owner_of c.args.seen in
    let own = c.args.parameter.now in
    let q = parameter_as k o own in
    let v = c.in-Some.value in
    let same = parameter_subtype k o (parameter_of k.types own)
    ∙ sym (ap (λ t. subtype_of t c.subtype_by-subtype.result) h ∙ (c.subtype_by-subtype.ensures ∙ ap (λ t. subtype_by t o (subtype_of t own.subtype)) (sym h))) in
    next_actual k q qs c.args.values.now.items _ v c.passed.result c.in-Some.ensures.items
    (λ rest. c.passed.ensures k q rest same ∙ ap (λ m. passed_as m q (judged_of k v) rest) (sym (parameter_mode k o (parameter_of k.types own))))
