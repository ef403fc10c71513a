use Rattle.std.proofs.Common.{rules, ap, ◌∙◌}
use Rattle.ada_tree.specs.View.{label_of}
use Rattle.ada_rules.specs.Environment.{given, decision_label}
use Rattle.ada_judged.specs.JudgedView.{judged_of}
use Rattle.ada_phrases.specs.Answers.{counted}
use Rattle.ada_phrases.specs.DecisionView.{decision_of}
use Rattle.ada_phrases.specs.Scopes.{step_of}
use Rattle.ada_phrases.proofs.DecisionLaws.{decision_passes, decision_refused}
use Rattle.ada_phrases.proofs.Parts.{answers_as}
use Rattle.ada_phrases.proofs.tests.decision.Goals as goal

pub returns-in_err-value : goal.returns-in_err-value
returns-in_err-value c k env s h =
    let r = decision_refused env (counted c.args.decisions.now s) c.args.pos c.args.expr.now (counted c.number.new.self s) c.in_err-value.field-0.0
    (c.in_ok-label.ensures.taken s) (c.in_err-value.ensures k env s h) in
    search (rules, r)

pub returns : goal.returns
returns c k env s h =
    let s0 = counted c.args.decisions.now s in
    let e = c.args.expr.now in
    let x = given (judged_of k c.in_ok-value.value) (counted c.judged.new.decisions s) in
    let l = label_of c.in_ok-label.label in
    answers_as (λ d. given (decision_of k d) (counted c.labelled.new.decisions s)) _ _ c.labelled.result
    (decision_passes env s0 c.args.pos e (counted c.number.new.self s) (step_of c.args.scope.now.step) l x h.step (c.in_ok-label.ensures.taken s)
    (c.in_ok-label.ensures.label s ∙ ap (decision_label s0) c.pos.ensures) (c.in_ok-value.ensures k env s h))
    (c.labelled.ensures k s)
