use Rattle.std.proofs.Common.{Some, sym, ap, ◌∙◌}
use Rattle.ada_tree.specs.View.{owner_of, label_of, actuals_of}
use Rattle.ada_rules.specs.Statements.{procedure_called}
use Rattle.ada_entities.specs.EntityViews.{awaits_body, routine_by, awaiting}
use Rattle.ada_entities.specs.RoutineViews.{routine_from}
use Rattle.object_values.specs.program_walk.specs.Exact.{exact}
use Rattle.object_values.specs.program_walk.proofs.AloneLaws.{routine_alone}
use Rattle.statement_parts.specs.Simple.{in_tree}
use Rattle.statement_parts.proofs.CallLaws.{nobody_called}
use Rattle.statement_parts.proofs.calls.full_call.Goals as goal

pub returns-in-Some : goal.returns-in-Some
returns-in-Some c k alike =
    let symbols = c.args.symbols.now in
    let name = c.args.name in
    let here = exact symbols k.spans in
    let there = routine_alone symbols k name c.routine.result alike c.routine.ensures
    ∙ ap (λ o. awaiting (awaits_body name.completion) (routine_by here (owner_of name.seen) (routine_from here o))) c.in-Some.is in
    c.procedure_call.ensures k here ∙ sym (ap (λ r. procedure_called (label_of c.args.label) r (actuals_of c.args.actuals.items)) there)

pub returns-in-None : goal.returns-in-None
returns-in-None c k alike =
    let symbols = c.args.symbols.now in
    let name = c.args.name in
    let here = exact symbols k.spans in
    let l = label_of c.args.label in
    let actuals = actuals_of c.args.actuals.items in
    let there = routine_alone symbols k name c.routine.result alike c.routine.ensures
    ∙ ap (λ o. awaiting (awaits_body name.completion) (routine_by here (owner_of name.seen) (routine_from here o))) c.in-None.is in
    ap (λ x. Some (in_tree k x)) c.call_statement.ensures
    ∙ (nobody_called here l (owner_of name.seen) actuals ∙ sym (ap (λ r. procedure_called l r actuals) there))
