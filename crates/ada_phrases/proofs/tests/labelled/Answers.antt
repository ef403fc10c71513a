use Rattle.std.proofs.Common.{Ok, option_map, sym, ap, ◌∙◌}
use Rattle.ada_tree.specs.View.{label_of}
use Rattle.ada_rules.specs.Plan.{answer_at}
use Rattle.ada_rules.specs.Environment.{typed_rule, given}
use Rattle.ada_rules.specs.Denoted.{test_of, tested}
use Rattle.ada_rules.specs.Expressions.{measured}
use Rattle.ada_judged.specs.JudgedView.{judged_of}
use Rattle.ada_phrases.specs.Answers.{counted}
use Rattle.ada_phrases.specs.DecisionView.{decision_of}
use Rattle.ada_phrases.specs.Scopes.{step_of}
use Rattle.ada_phrases.proofs.Parts.{answers_as}
use Rattle.ada_phrases.proofs.tests.labelled.Goals as goal

pub returns-in_ok-any_decision-in-Naming : goal.returns-in_ok-any_decision-in-Naming
returns-in_ok-any_decision-in-Naming c k s =
    let p = c.args.pos in
    let l = label_of c.args.label in
    let x = judged_of k c.args.value in
    let s0 = counted c.args.decisions.now s in
    ap (λ st. answer_at p (typed_rule (step_of st) (given (l, test_of x.at x.form) s0) (option_map (λ t. given (l, t) (measured l.place t s0)) (tested x))).outcome) c.in-Naming.is
    ∙ ap (λ y. Ok (given y s0)) (sym (c.in_ok-any_decision-in-Naming.ensures k))

pub returns-in-Typing : goal.returns-in-Typing
returns-in-Typing c k s =
    let p = c.args.pos in
    let l = label_of c.args.label in
    let x = judged_of k c.args.value in
    let s0 = counted c.args.decisions.now s in
    answers_as (λ d. given (decision_of k d) (counted c.boolean_decision.new.decisions s)) _ _ c.boolean_decision.result
    (ap (λ st. answer_at p (typed_rule (step_of st) (given (l, test_of x.at x.form) s0) (option_map (λ t. given (l, t) (measured l.place t s0)) (tested x))).outcome) c.in-Typing.is)
    (c.boolean_decision.ensures k s)
