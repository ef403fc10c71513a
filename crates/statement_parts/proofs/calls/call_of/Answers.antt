use Rattle.std.proofs.Common.{sym, ap, ◌∙◌}
use Rattle.ada_tree.specs.View.{label_of}
use Rattle.ada_rules.specs.Statements.{call_of}
use Rattle.ada_phrases.specs.DenotedView.{denotes}
use Rattle.object_values.specs.program_walk.specs.Exact.{exact}
use Rattle.statement_parts.proofs.CallLaws.{routine_called, other_call}
use Rattle.statement_parts.proofs.calls.call_of.Goals as goal

pub returns-in-Routine : goal.returns-in-Routine
returns-in-Routine c k alike =
    let here = exact c.args.symbols.now k.spans in
    let is = c.in-Routine.is in
    c.bare_call.ensures k (ap routine_called (sym (ap (denotes k) is) ∙ (alike ∙ ap (denotes here) is)))
    ∙ ap (λ d. call_of (label_of c.args.label) (denotes k d)) (sym is)

pub returns-in-Call : goal.returns-in-Call
returns-in-Call c k alike =
    let here = exact c.args.symbols.now k.spans in
    let is = c.in-Call.is in
    c.full_call.ensures k (ap routine_called (sym (ap (denotes k) is) ∙ (alike ∙ ap (denotes here) is)))
    ∙ ap (λ d. call_of (label_of c.args.label) (denotes k d)) (sym is)

pub returns-in_default : goal.returns-in_default
returns-in_default c k alike =
    other_call k (label_of c.args.label) c.args.denoted c.in_default.not-Routine c.in_default.not-Call
