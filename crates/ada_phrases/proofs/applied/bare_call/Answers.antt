use Rattle.std.proofs.Common.{◌≡◌, nat_eq, true, length, ap, ◌∙◌, option_map, rules}
use Rattle.ada_tree.specs.View.{owner_of, actuals_of}
use Rattle.ada_rules.specs.Denoted.{standing_at, called}
use Rattle.ada_entities.specs.EntityViews.{routine_by, routine_of}
use Rattle.ada_entities.specs.RoutineViews.{parameter_of, routine_from}
use Rattle.ada_phrases.proofs.Local.{bare_routine, mapped_length, none_bare}
use Rattle.ada_phrases.proofs.applied.bare_call.Goals as goal

pub returns-then-is_empty : goal.returns-then-is_empty
returns-then-is_empty c k env h =
    let r = routine_of k c.args.routine in
    let o = owner_of c.args.routine.seen in
    let none : length c.parameters_of.result.now ≡ 0 = search rules in
    let bare : nat_eq (length r.parameters) 0 ≡ true = ap (λ x. nat_eq (length (routine_by k o x).parameters) 0) (c.get.ensures k h.routines)
    ∙ bare_routine k o (routine_from k c.get.result) (mapped_length (parameter_of k.types) c.parameters_of.result.now _ (c.parameters_of.ensures k) none) in
    c.call_value.ensures k env h
    ∙ ap (option_map (standing_at c.args.pos)) (ap (λ xs. called r (actuals_of xs) r.result) c.new.ensures.items ∙ none_bare r _ bare)
