-- The decision of a statement: it passes with its expression, or is refused with it.
use Rattle.std.proofs.Common.{◌≡◌, option_map, Result, Ok, sym, ap, ◌∙◌, subst}
use Rattle.cov_base.specs.declared.position.Pos.{Pos}
use Rattle.cov_base.specs.declared.failure.Failure.{Failure}
use Rattle.ada_meaning.specs.Tree as tree
use Rattle.ada_syntax.specs.Tree.{Expr, expr_pos}
use Rattle.ada_rules.specs.Plan.{outcome_after, answer_at}
use Rattle.ada_rules.specs.Environment.{Step, typed_rule, State, Given, given, Env, decision_label, decided}
use Rattle.ada_rules.specs.Denoted as rules
use Rattle.ada_rules.specs.Denoted.{test_of, tested}
use Rattle.ada_rules.specs.Expressions.{operand, judged, decision, measured}
use Rattle.ada_entities.specs.declared.fault.Refusal.{Refusal}
use Rattle.ada_entities.specs.Answers.{Refuses}
use Rattle.ada_phrases.proofs.Parts.{in_part}

-- what the rule of a statement at this place gives, with this label
abbrev pub own_rule : Step → Pos → tree.Label → Given rules.Judged → Result (Given (tree.Label × tree.Test)) Pos
own_rule st p l x =
    answer_at p (typed_rule st (given (l, test_of x.value.at x.value.form) x.next)
    (option_map (λ t. given (l, t) (measured l.place t x.next)) (tested x.value))).outcome

module _ (env : Env) (s : State) (p : Pos) (e : Expr) (inner : State) where
  pub decision_passes : (st : Step) (l : tree.Label) (x : Given rules.Judged) → env.step ≡ st → inner ≡ decided s → l ≡ decision_label s (expr_pos e)
      → (judged env operand inner e).answer ≡ Ok x → (decision env s p e).answer ≡ own_rule st p l x
  decision_passes st l x h i j ok =
      ap (λ r. answer_at p (outcome_after r (λ x. typed_rule env.step (given (decision_label s (expr_pos e), test_of x.value.at x.value.form) x.next)
      (option_map (λ t. given (decision_label s (expr_pos e), t) (measured (expr_pos e) t x.next)) (tested x.value)))))
      (ap (λ u. (judged env operand u e).answer) (sym i) ∙ ok)
      ∙ (ap (λ st. own_rule st p (decision_label s (expr_pos e)) x) h ∙ ap (λ l. own_rule st p l x) (sym j))

  pub decision_refused : (f : Failure Refusal) → inner ≡ decided s → Refuses (judged env operand inner e).answer f → Refuses (decision env s p e).answer f
  decision_refused f i r =
      in_part p (judged env operand (decided s) e).answer
      (λ x. typed_rule env.step (given (decision_label s (expr_pos e), test_of x.value.at x.value.form) x.next)
      (option_map (λ t. given (decision_label s (expr_pos e), t) (measured (expr_pos e) t x.next)) (tested x.value))) f
      (subst (λ u. Refuses (judged env operand u e).answer f) i r)
