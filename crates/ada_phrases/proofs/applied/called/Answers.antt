use Rattle.std.proofs.Common.{map, sym, ap, ◌∙◌, option_map}
use Rattle.ada_tree.specs.View.{owner_of, actuals_of}
use Rattle.ada_rules.specs.Denoted.{a_call, actuals_for}
use Rattle.ada_entities.specs.EntityViews.{routine_by, routine_of}
use Rattle.ada_entities.specs.RoutineViews.{routine_from}
use Rattle.ada_judged.specs.JudgedView.{judged_of}
use Rattle.ada_phrases.proofs.Local.{seen_parameters}
use Rattle.ada_phrases.proofs.applied.called.Goals as goal

pub returns-in-Some : goal.returns-in-Some
returns-in-Some c k env h =
    let o = owner_of c.args.routine.seen in
    let seen = seen_parameters k o c.parameters_of-parameters.result.now (routine_from k c.get.result) (c.parameters_of-parameters.ensures k)
    ∙ ap (λ x. (routine_by k o x).parameters) (sym (c.get.ensures k h.routines)) in
    ap (option_map (a_call (routine_of k c.args.routine)))
    (ap (option_map (λ v. actuals_of v.items)) (sym c.in-Some.is)
    ∙ (c.in_ok-actuals.ensures k h.units.typed ∙ ap (λ qs. actuals_for qs (map (judged_of k) c.args.values.items)) seen))

pub returns-in-None : goal.returns-in-None
returns-in-None c k env h =
    let o = owner_of c.args.routine.seen in
    let seen = seen_parameters k o c.parameters_of-parameters.result.now (routine_from k c.get.result) (c.parameters_of-parameters.ensures k)
    ∙ ap (λ x. (routine_by k o x).parameters) (sym (c.get.ensures k h.routines)) in
    ap (option_map (a_call (routine_of k c.args.routine)))
    (ap (option_map (λ v. actuals_of v.items)) (sym c.in-None.is)
    ∙ (c.in_ok-actuals.ensures k h.units.typed ∙ ap (λ qs. actuals_for qs (map (judged_of k) c.args.values.items)) seen))
