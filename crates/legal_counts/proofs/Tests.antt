-- What an operand comes to as a test: its conditions stand where they stand in the text, and no `not` stands directly in
-- another.
use Rattle.std.proofs.Common.{◌≡◌, nat_lt, Bool, true, false, if◌then◌else◌, List, [], ◌∷◌, ◌++◌, Option, Some, None, option_map, IfSome, IfOk, is_some, refl, sym, ◌∙◌, subst}
use Rattle.std.specs.Prelude.{◌&&◌, not}
use Rattle.cov_base.specs.Expr.{is_negation, negates_once}
use Rattle.cov_base.specs.declared.position.Pos.{Pos}
use Rattle.ada_syntax.specs.Tree as source
use Rattle.ada_syntax.specs.declared.expr.UnaryOperator.{UnaryOperator}
use Rattle.ada_syntax.specs.declared.expr.UnaryOperator.TheVariants as unary
use Rattle.ada_meaning.specs.Collected.{condition_places}
use Rattle.ada_meaning.specs.Tree as tree
use Rattle.ada_meaning.specs.Tree.{shape_of}
use Rattle.ada_meaning.specs.Types.{Sign}
use Rattle.ada_rules.specs.Plan.{◌>>=◌, rule}
use Rattle.ada_rules.specs.Types.{is_integral, is_discrete, is_boolean, common}
use Rattle.ada_rules.specs.Environment.{typing, typed_rule, State, Given, given, Env}
use Rattle.ada_rules.specs.Denoted.{Form, plain, test_form, Judged, any_judged, complement_of, complemented, signed, sign_of, operator_of, operation_of, relation_of, relation_with, circuit_of, negated, test_of_expr, test_of, numeral_of, standing_at, enclosed, unary_of, binary_of, related, neutral_of, joined, value_of}
use Rattle.ada_rules.specs.Expressions.{itself, operand, closed, typed_as, denoted, judged}
use Rattle.legal_laws.proofs.Passing.{both_true, IfPassed, if_map, if_then, if_test, answered, part_so, typed_so, both_ok, weaker_ok, any_answer}
use Rattle.legal_programs.specs.Deciding.{IsWholeEnv, IsPlain, JudgesFrom}
use Rattle.legal_programs.proofs.DecidedExpressions.{any_of, judged_decides}
use Rattle.legal_counts.specs.ConditionPlaces.{conditions}

-- a test with conditions at these places, in which no `not` stands directly in another
abbrev pub IsTest : List Pos → tree.Test → Type 0
IsTest ps t = (condition_places t ≡ ps) × (negates_once (shape_of t) ≡ true)

once_negated : (t : tree.Test) → negates_once (shape_of t) ≡ true → negates_once (shape_of (negated t)) ≡ true
once_negated (tree.condition at e) h = refl
once_negated (tree.negation t) h = (both_true (not (is_negation (shape_of t))) (negates_once (shape_of t)) h).1
once_negated (tree.operator neutral t u) h = h

places_negated : (t : tree.Test) → condition_places (negated t) ≡ condition_places t
places_negated (tree.condition at e) = refl
places_negated (tree.negation t) = refl
places_negated (tree.operator neutral t u) = refl

pub negated_test : (ps : List Pos) (t : tree.Test) → IsTest ps t → IsTest ps (negated t)
negated_test ps t h = (places_negated t ∙ h.0, once_negated t h.1)

expr_test : (at : Pos) (e : tree.Expr) → IsTest (at ∷ []) (test_of_expr at e)
expr_test at (tree.complement e) = negated_test (at ∷ []) (test_of_expr at e) (expr_test at e)
expr_test at (tree.literal x) = (refl, refl)
expr_test at (tree.constant e) = (refl, refl)
expr_test at (tree.attribute o parts e) = (refl, refl)
expr_test at (tree.read o parts) = (refl, refl)
expr_test at (tree.signed s e) = (refl, refl)
expr_test at (tree.operation o e f) = (refl, refl)
expr_test at (tree.relation r e f) = (refl, refl)
expr_test at (tree.conversion r e) = (refl, refl)
expr_test at (tree.call c actuals) = (refl, refl)
expr_test at (tree.decision d t) = (refl, refl)

plain_test : (at : Pos) (f : Form) → IsPlain f → IsTest (at ∷ []) (test_of at f)
plain_test at (plain e) h = expr_test at e
plain_test at (test_form t) h = absurd h

-- what an expression is as an operand of a decision
abbrev pub TestOf : List Pos → Judged → Type 0
TestOf ps x = IsTest ps (test_of x.at x.form)

pub complement_test : (ps : List Pos) (at : Pos) (f : Form) → IsTest ps (test_of at f) → IsTest ps (test_of at (complemented f))
complement_test ps at (plain e) h = negated_test ps (test_of_expr at e) h
complement_test ps at (test_form t) h = negated_test ps t h

pub circuit_test : (ps qs : List Pos) (p : Pos) (b : Bool) (o : Option Bool) (x y : Judged) → TestOf ps x → TestOf qs y
    → IfSome (if b then option_map (circuit_of p x y) o else None) (TestOf (ps ++ qs))
circuit_test ps qs p b None x y h k = if_test (TestOf (ps ++ qs)) b None (λ e. tt)
circuit_test ps qs p b (Some neutral) x y h k =
    if_test (TestOf (ps ++ qs)) b _ (λ e. (λ i. h.0 i ++ k.0 i, λ i. h.1 i && k.1 i))

standing : (p : Pos) (t : State) (o : Option Judged) → IfSome (option_map (λ x. given x t) (option_map (standing_at p) o)) (λ g. g.value.at ≡ p)
standing p t None = tt
standing p t (Some x) = refl

module _ (env : Env) (step : env.step ≡ typing) (is : IsWholeEnv env) where
  named_at : (s : State) (p : Pos) (n : source.Name) → IfOk (judged env operand s (source.named p n)).answer (λ g. g.value.at ≡ p)
  named_at s p n =
      answered (λ (g : Given Judged). g.value.at ≡ p) p _
      (part_so (λ d. Unit {0}) (λ g. g.value.at ≡ p) (denoted env s n).answer (λ d. typed_as env d.next (option_map (standing_at p) (value_of d.value)))
      (any_answer (denoted env s n).answer)
      (λ d u. typed_so (λ g. g.value.at ≡ p) env.step (given any_judged d.next) _ step (standing p d.next (value_of d.value))))

  -- a sign in front
  signed_test : (s : State) (q : Pos) (op : UnaryOperator) (e : source.Expr)
      → ((x : Judged) → unary_of q op x ≡ (if is_integral x.kind then option_map (signed q x) (sign_of op) else None))
      → IfPassed ((judged env itself s e) >>= (λ x. typed_rule env.step (given any_judged x.next) (option_map (λ y. closed false s q (given y x.next)) (unary_of q op x.value)))).outcome
      (λ g. TestOf (q ∷ []) g.value)
  signed_test s q op e same =
      part_so (λ x. Unit {0}) (λ g. TestOf (q ∷ []) g.value) (judged env itself s e).answer
      (λ x. typed_rule env.step (given any_judged x.next) (option_map (λ y. closed false s q (given y x.next)) (unary_of q op x.value)))
      (any_answer (judged env itself s e).answer)
      (λ x u. typed_so (λ g. TestOf (q ∷ []) g.value) env.step (given any_judged x.next) _ step
      (subst (λ o. IfSome (option_map (λ y. closed false s q (given y x.next)) o) (λ g. TestOf (q ∷ []) g.value)) (sym (same x.value))
      (if_map (TestOf (q ∷ [])) (λ g. TestOf (q ∷ []) g.value) (λ y. closed false s q (given y x.next)) (if is_integral x.value.kind then option_map (signed q x.value) (sign_of op) else None)
      (if_test (TestOf (q ∷ [])) (is_integral x.value.kind) (option_map (signed q x.value) (sign_of op))
      (λ b. if_map (λ (g : Sign). Unit {0}) (TestOf (q ∷ [])) (signed q x.value) (sign_of op) (any_of (sign_of op)) (λ g v. (refl, refl))))
      (λ y k. k))))

  pub operand_test : (s : State) (e : source.Expr) → IfOk (judged env operand s e).answer (λ g. TestOf (conditions e) g.value)
  operand_test s (source.numeral p n) =
      answered (λ (g : Given Judged). TestOf (p ∷ []) g.value) p _
      (typed_so (λ g. TestOf (p ∷ []) g.value) env.step (given any_judged s) (option_map (λ x. given x s) (numeral_of p n)) step
      (if_map (TestOf (p ∷ [])) (λ g. TestOf (p ∷ []) g.value) (λ x. given x s) (numeral_of p n)
      (if_test (TestOf (p ∷ [])) (nat_lt n 2147483648) _ (λ e. (refl, refl))) (λ x k. k)))
  operand_test s (source.named p n) =
      weaker_ok (λ g. JudgesFrom operand false s g × (g.value.at ≡ p)) (λ g. TestOf (p ∷ []) g.value) (judged env operand s (source.named p n)).answer
      (both_ok (JudgesFrom operand false s) (λ g. g.value.at ≡ p) (judged env operand s (source.named p n)).answer
      (judged_decides env step is operand s (source.named p n)) (named_at s p n))
      (λ g h. subst (λ q. IsTest (q ∷ []) (test_of g.value.at g.value.form)) h.1 (plain_test g.value.at g.value.form h.0.is_plain))
  operand_test s (source.parenthesized p e) =
      answered (λ (g : Given Judged). TestOf (conditions e) g.value) p _
      (part_so (λ x. TestOf (conditions e) x.value) (λ g. TestOf (conditions e) g.value) (judged env operand s e).answer
      (λ x. rule (Some (closed false s p (given (enclosed x.value) x.next)))) (operand_test s e) (λ x h. h))
  operand_test s (source.unary p unary.Not e) =
      answered (λ (g : Given Judged). TestOf (conditions e) g.value) p _
      (part_so (λ x. TestOf (conditions e) x.value) (λ g. TestOf (conditions e) g.value) (judged env operand s e).answer
      (λ x. typed_rule env.step (given any_judged x.next) (option_map (λ y. closed false s p (given y x.next)) (unary_of p unary.Not x.value)))
      (operand_test s e)
      (λ x h. typed_so (λ g. TestOf (conditions e) g.value) env.step (given any_judged x.next) _ step
      (if_map (TestOf (conditions e)) (λ g. TestOf (conditions e) g.value) (λ y. closed false s p (given y x.next)) (unary_of p unary.Not x.value)
      (if_test (TestOf (conditions e)) (is_boolean x.value.kind) (Some (complement_of x.value)) (λ b. complement_test (conditions e) x.value.at x.value.form h))
      (λ y k. k))))
  operand_test s (source.unary p unary.Plus e) = answered (λ (g : Given Judged). TestOf (p ∷ []) g.value) p _ (signed_test s p unary.Plus e (λ x. refl))
  operand_test s (source.unary p unary.Minus e) = answered (λ (g : Given Judged). TestOf (p ∷ []) g.value) p _ (signed_test s p unary.Minus e (λ x. refl))
  operand_test s (source.unary p unary.Abs e) = answered (λ (g : Given Judged). TestOf (p ∷ []) g.value) p _ (signed_test s p unary.Abs e (λ x. refl))
  operand_test s (source.binary p a op b) =
      answered (λ (g : Given Judged). TestOf (p ∷ []) g.value) p _
      (part_so (λ x. Unit {0}) (λ g. TestOf (p ∷ []) g.value) (judged env itself s a).answer
      (λ x. judged env itself x.next b >>= (λ y. typed_as env y.next (binary_of p op x.value y.value))) (any_answer (judged env itself s a).answer)
      (λ x u. part_so (λ y. Unit {0}) (λ g. TestOf (p ∷ []) g.value) (judged env itself x.next b).answer
      (λ y. typed_as env y.next (binary_of p op x.value y.value)) (any_answer (judged env itself x.next b).answer)
      (λ y v. typed_so (λ g. TestOf (p ∷ []) g.value) env.step (given any_judged y.next) (option_map (λ z. given z y.next) (binary_of p op x.value y.value)) step
      (if_map (TestOf (p ∷ [])) (λ g. TestOf (p ∷ []) g.value) (λ z. given z y.next) (binary_of p op x.value y.value)
      (if_then (λ k. Unit {0}) (TestOf (p ∷ [])) (λ k. if is_integral k then Some (operation_of p (operator_of op) x.value y.value k) else None)
      (common x.value.kind y.value.kind) (any_of (common x.value.kind y.value.kind))
      (λ k w. if_test (TestOf (p ∷ [])) (is_integral k) _ (λ e. (refl, refl))))
      (λ z k. k)))))
  operand_test s (source.relation p a op b) =
      answered (λ (g : Given Judged). TestOf (p ∷ []) g.value) p _
      (part_so (λ x. Unit {0}) (λ g. TestOf (p ∷ []) g.value) (judged env itself s a).answer
      (λ x. judged env itself x.next b >>= (λ y. typed_as env y.next (related p op x.value y.value))) (any_answer (judged env itself s a).answer)
      (λ x u. part_so (λ y. Unit {0}) (λ g. TestOf (p ∷ []) g.value) (judged env itself x.next b).answer
      (λ y. typed_as env y.next (related p op x.value y.value)) (any_answer (judged env itself x.next b).answer)
      (λ y v. typed_so (λ g. TestOf (p ∷ []) g.value) env.step (given any_judged y.next) (option_map (λ z. given z y.next) (related p op x.value y.value)) step
      (if_map (TestOf (p ∷ [])) (λ g. TestOf (p ∷ []) g.value) (λ z. given z y.next) (related p op x.value y.value)
      (if_then (λ k. Unit {0}) (TestOf (p ∷ [])) (λ k. if is_discrete k then Some (relation_with p (relation_of op) x.value y.value) else None)
      (common x.value.kind y.value.kind) (any_of (common x.value.kind y.value.kind))
      (λ k w. if_test (TestOf (p ∷ [])) (is_discrete k) _ (λ e. (refl, refl))))
      (λ z k. k)))))
  operand_test s (source.logical p a op b) =
      let all = conditions (source.logical p a op b) in
      answered (λ (g : Given Judged). TestOf all g.value) p _
      (part_so (λ x. TestOf (conditions a) x.value) (λ g. TestOf all g.value) (judged env operand s a).answer
      (λ x. judged env operand x.next b >>= (λ y. typed_rule env.step (given any_judged y.next)
      (option_map (λ z. closed false s p (given z y.next)) (joined p op x.value y.value)))) (operand_test s a)
      (λ x h. part_so (λ y. TestOf (conditions b) y.value) (λ g. TestOf all g.value) (judged env operand x.next b).answer
      (λ y. typed_rule env.step (given any_judged y.next) (option_map (λ z. closed false s p (given z y.next)) (joined p op x.value y.value)))
      (operand_test x.next b)
      (λ y k. typed_so (λ g. TestOf all g.value) env.step (given any_judged y.next) (option_map (λ z. closed false s p (given z y.next)) (joined p op x.value y.value)) step
      (if_map (TestOf all) (λ g. TestOf all g.value) (λ z. closed false s p (given z y.next)) (joined p op x.value y.value)
      (by_operator (neutral_of op) (is_boolean x.value.kind && is_boolean y.value.kind) p (conditions a) (conditions b) x.value y.value h k)
      (λ z l. l)))))
    where
      by_operator : (o : Option Bool) (c : Bool) (q : Pos) (ps qs : List Pos) (x y : Judged) → TestOf ps x → TestOf qs y
          → IfSome (if c then option_map (circuit_of q x y) o else None) (TestOf (if is_some o then ps ++ qs else q ∷ []))
      by_operator None c q ps qs x y h k = if_test (TestOf (q ∷ [])) c None (λ e. tt)
      by_operator (Some neutral) c q ps qs x y h k = circuit_test ps qs q c (Some neutral) x y h k
