-- Tests under `not`.
use Rattle.std.proofs.Common.{◌≡◌, Bool, List, [], ◌∷◌, IsTrue, Result, Ok, Err, IfOk, Box, Global, refl, sym, subst}
use Rattle.std.proofs.lemmas.Bool.{false≢true}
use Rattle.cov_base.specs.declared.position.Pos.{Pos}
use Rattle.ada_meaning.specs.Tree.{Expr, operation, Test, condition, negation, operator}
use Rattle.ada_meaning.specs.Types.{Operator}
use Rattle.ada_tree.specs.View.{operator_of, with_operands, has_operators, expr_at, with_tests, is_filled, has_forms, neutral_of, test_at}
use Rattle.ada_tree.specs.declared.expr.Operand.{Operand}
use Rattle.ada_tree.specs.declared.expr.ExprKind.{ExprKind}
use Rattle.ada_tree.specs.declared.expr.ExprKind.TheVariants as expr
use Rattle.ada_tree.specs.declared.expr.TestKind.{TestKind}
use Rattle.ada_tree.specs.declared.expr.TestKind.TheVariants as test
use Rattle.ada_entities.specs.ada_rules.specs.Denoted.{negated, test_of_expr}

not_negated : (n : Bool) (t u : Test) (us : List Test) → negated (with_tests n (operator n t u) us) ≡ negation (with_tests n (operator n t u) us)
not_negated n t u [] = refl
not_negated n t u (v ∷ us) = not_negated n (operator n t u) v us

-- a short-circuit control form is no negation
pub circuit_negated : (n : Bool) (t : Test) (us : List Test) → IsTrue (is_filled us) → negation (with_tests n t us) ≡ negated (with_tests n t us)
circuit_negated n t [] h = absurd (false≢true h)
circuit_negated n t (u ∷ us) h = sym (not_negated n t u us)

pub is_then : {A E : Type 0} (r : Result A E) (x y : A) → x ≡ y → IfOk r (λ t. t ≡ x) → IfOk r (λ t. t ≡ y)
is_then r x y e h = subst (λ z. IfOk r (λ t. t ≡ z)) e h

-- what is no negation is put under one
pub other_negated : (k : TestKind) → IsTrue (has_forms k) → ((x : Box Test Global) → k ≡ test.Negation x → ⊥) → negation (test_at k) ≡ negated (test_at k)
other_negated (test.Condition at e) f h = refl
other_negated (test.Negation t) f h = absurd (h t refl)
other_negated (test.ShortCircuit n t us) f h = circuit_negated (neutral_of n) t.value us.items f

-- an expression that is under no `not` is a condition
chain_condition : (at : Pos) (o : Operator) (a b : Expr) (os : List Operand)
    → condition at (with_operands (operation o a b) os) ≡ test_of_expr at (with_operands (operation o a b) os)
chain_condition at o a b [] = refl
chain_condition at o a b (x ∷ os) = chain_condition at (operator_of x.operator) (operation o a b) x.operand os

filled_condition : (at : Pos) (a : Expr) (os : List Operand) → IsTrue (is_filled os) → condition at (with_operands a os) ≡ test_of_expr at (with_operands a os)
filled_condition at a [] h = absurd (false≢true h)
filled_condition at a (o ∷ os) h = chain_condition at (operator_of o.operator) a o.operand os

pub other_condition : (at : Pos) (k : ExprKind) → IsTrue (has_operators k) → ((x : Box Expr Global) → k ≡ expr.Complement x → ⊥)
    → condition at (expr_at k) ≡ test_of_expr at (expr_at k)
other_condition at (expr.Literal x) f h = refl
other_condition at (expr.Constant e) f h = refl
other_condition at (expr.Read o) f h = refl
other_condition at (expr.Part o ss) f h = refl
other_condition at (expr.Attribute o ss e) f h = refl
other_condition at (expr.Signed s e) f h = refl
other_condition at (expr.Operations a os) f h = filled_condition at a.value os.items f
other_condition at (expr.Relation r a b) f h = refl
other_condition at (expr.Complement e) f h = absurd (h e refl)
other_condition at (expr.Conversion r e) f h = refl
other_condition at (expr.Call c xs) f h = refl
other_condition at (expr.Decision l t) f h = refl

pub ok_then : {A E : Type 0} (P Q : A → Type 0) (r : Result A E) → ((x : A) → P x → Q x) → IfOk r P → IfOk r Q
ok_then P Q (Ok x) f h = f x h
ok_then P Q (Err e) f h = tt
