use Rattle.std.proofs.Common.{Some, sym, ap, ◌∙◌}
use Rattle.ada_meaning.specs.Tree.{procedure_call, test_put}
use Rattle.ada_tree.specs.View.{owner_of, label_of, actuals_of}
use Rattle.ada_entities.specs.EntityViews.{awaits_body, routine_by, awaiting}
use Rattle.ada_entities.specs.RoutineViews.{routine_from}
use Rattle.object_values.specs.program_walk.specs.Exact.{exact}
use Rattle.object_values.specs.program_walk.proofs.AloneLaws.{routine_alone}
use Rattle.statement_parts.specs.Calls.{called_alone}
use Rattle.statement_parts.specs.Simple.{in_tree}
use Rattle.statement_parts.proofs.CallLaws.{nobody_alone}
use Rattle.statement_parts.proofs.calls.bare_call.Goals as goal

pub returns-in-Some : goal.returns-in-Some
returns-in-Some c k alike =
    let symbols = c.args.symbols.now in
    let name = c.args.name in
    let here = exact symbols k.spans in
    let there = routine_alone symbols k name c.routine.result alike c.routine.ensures
    ∙ ap (λ o. awaiting (awaits_body name.completion) (routine_by here (owner_of name.seen) (routine_from here o))) c.in-Some.is in
    c.bare_call_of.ensures k here ∙ sym (ap (called_alone c.args.label) there)

pub returns-in-None : goal.returns-in-None
returns-in-None c k alike =
    let symbols = c.args.symbols.now in
    let name = c.args.name in
    let here = exact symbols k.spans in
    let there = routine_alone symbols k name c.routine.result alike c.routine.ensures
    ∙ ap (λ o. awaiting (awaits_body name.completion) (routine_by here (owner_of name.seen) (routine_from here o))) c.in-None.is in
    ap (λ x. Some (in_tree k x)) (c.call_statement.ensures ∙ ap (λ xs. procedure_call (label_of c.args.label) test_put (actuals_of xs)) c.new.ensures.items)
    ∙ (nobody_alone here c.args.label (owner_of name.seen) ∙ sym (ap (called_alone c.args.label) there))
