use Rattle.std.proofs.Common.{option_map, sym, ap, ◌∙◌, subst}
use Rattle.ada_tree.specs.View.{label_of}
use Rattle.ada_rules.specs.Plan.{answer_at}
use Rattle.ada_rules.specs.Environment.{typing, typed_rule, given}
use Rattle.ada_rules.specs.Denoted.{test_of, tested}
use Rattle.ada_rules.specs.Expressions.{measured}
use Rattle.ada_entities.specs.Answers.{Refuses, refused_at}
use Rattle.ada_judged.specs.JudgedView.{judged_of}
use Rattle.ada_phrases.specs.Answers.{counted}
use Rattle.ada_phrases.proofs.tests.boolean_decision.Goals as goal

pub returns-in_default : goal.returns-in_default
returns-in_default c k s =
    let p = c.args.pos in
    let l = label_of c.args.label in
    let x = judged_of k c.args.value in
    let s0 = counted c.args.decisions.now s in
    subst (λ f. Refuses (answer_at p (typed_rule typing (given (l, test_of x.at x.form) s0) (option_map (λ t. given (l, t) (measured l.place t s0)) (tested x))).outcome) f)
    (sym c.refused.ensures)
    (refused_at (ap (λ o. answer_at p (typed_rule typing (given (l, test_of x.at x.form) s0) (option_map (λ t. given (l, t) (measured l.place t s0)) o)).outcome)
    (sym (c.in_ok-test.ensures k) ∙ c.in_default.is)))
