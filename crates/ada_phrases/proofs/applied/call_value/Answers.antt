use Rattle.std.proofs.Common.{None, Some, sym, ap, ◌∙◌, option_map}
use Rattle.ada_meaning.specs.Tree.{call}
use Rattle.ada_tree.specs.View.{owner_of, actuals_of}
use Rattle.ada_rules.specs.Types.{kind_of}
use Rattle.ada_rules.specs.Denoted.{valued, standing_at}
use Rattle.ada_entities.specs.Views.{type_of}
use Rattle.ada_entities.specs.EntityViews.{values_of, routine_by, routine_of}
use Rattle.ada_phrases.specs.Routines.{returned_of, result_in}
use Rattle.ada_phrases.proofs.Local.{called_law}
use Rattle.ada_phrases.proofs.applied.call_value.Goals as goal

pub returns-in-Some : goal.returns-in-Some
returns-in-Some c k env h =
    let o = owner_of c.args.routine.seen in
    let x = c.in-Some.returned in
    let r = routine_of k c.args.routine in
    let actuals = actuals_of c.args.actuals.items in
    let found = sym (c.get-found.ensures k h.routines) in
    let result = c.in-Some.ensures k h.units.typed ∙ ap (λ y. result_in (routine_by k o y)) found in
    let callee = c.callee_by.ensures k ∙ ap (λ y. (routine_by k o y).callee) found in
    ap (λ e. Some (standing_at c.args.pos (valued e (kind_of (type_of k.types x.subtype.of)) None (Some (values_of k x.values)))))
    (c.call.ensures ∙ ap (λ y. call y actuals) callee)
    ∙ ap (option_map (standing_at c.args.pos)) (sym (called_law r actuals r.result (Some (returned_of k x)) result))
