-- How large chains of operands, short-circuit control forms, actuals and selectors are, and that each of their parts is smaller.
use Rattle.std.proofs.Common.{◌≡◌, ℕ, zero, suc, ◌+◌, ◌<◌, ◌≤◌, Bool, List, [], ◌∷◌, length, get_or, arith}
use Rattle.ada_meaning.specs.Tree as tree
use Rattle.ada_tree.specs.declared.expr.Actual.{Actual}
use Rattle.ada_tree.specs.declared.expr.Actual.TheVariants as actual
use Rattle.ada_tree.specs.declared.expr.Operand.{Operand}
use Rattle.ada_tree.specs.declared.expr.Selector.{Selector}
use Rattle.ada_tree.specs.declared.expr.Selector.TheVariants as selector
use Rattle.ada_tree.specs.Sizes.{expr_size, parts_size, actuals_size, test_size}
use Rattle.ada_tree.specs.View.{operator_of, with_operands, with_tests, with_selector, parts_of, with_actual, actuals_of}

-- how large the operands of a chain are
abbrev pub operands_size : List Operand → ℕ
operands_size [] = 0
operands_size (o ∷ os) = expr_size o.operand + operands_size os + 1

pub chain_size : (e : tree.Expr) (os : List Operand) → expr_size (with_operands e os) ≡ expr_size e + operands_size os
chain_size e [] = omega arith
chain_size e (o ∷ os) = omega (arith, chain_size (tree.operation (operator_of o.operator) e o.operand) os)

pub operand_within : (os : List Operand) (i : ℕ) (d : Operand) → i < length os → expr_size (get_or os i d).operand + 1 ≤ operands_size os
operand_within [] i d h = absurd (omega arith)
operand_within (o ∷ os) zero d h = omega arith
operand_within (o ∷ os) (suc i) d h = omega (arith, operand_within os i d (omega arith))

pub expr_positive : (e : tree.Expr) → 1 ≤ expr_size e
expr_positive (tree.literal x) = omega arith
expr_positive (tree.constant e) = omega arith
expr_positive (tree.attribute o parts e) = omega arith
expr_positive (tree.read o parts) = omega arith
expr_positive (tree.signed s e) = omega arith
expr_positive (tree.operation o e f) = omega arith
expr_positive (tree.relation r e f) = omega arith
expr_positive (tree.complement e) = omega arith
expr_positive (tree.conversion r e) = omega arith
expr_positive (tree.call c actuals) = omega arith
expr_positive (tree.decision d t) = omega arith

-- the same of the operands of a short-circuit control form
abbrev pub tests_size : List tree.Test → ℕ
tests_size [] = 0
tests_size (t ∷ ts) = test_size t + tests_size ts + 1

pub forms_size : (neutral : Bool) (t : tree.Test) (us : List tree.Test) → test_size (with_tests neutral t us) ≡ test_size t + tests_size us
forms_size neutral t [] = omega arith
forms_size neutral t (u ∷ us) = omega (arith, forms_size neutral (tree.operator neutral t u) us)

pub test_within : (ts : List tree.Test) (i : ℕ) (d : tree.Test) → i < length ts → test_size (get_or ts i d) + 1 ≤ tests_size ts
test_within [] i d h = absurd (omega arith)
test_within (t ∷ ts) zero d h = omega arith
test_within (t ∷ ts) (suc i) d h = omega (arith, test_within ts i d (omega arith))

pub test_positive : (t : tree.Test) → 1 ≤ test_size t
test_positive (tree.condition at e) = omega arith
test_positive (tree.negation t) = omega arith
test_positive (tree.operator neutral t u) = omega arith

-- how large an actual and a selector are, and that they are smaller than the list that they stand in
abbrev pub actual_size : Actual → ℕ
actual_size (actual.Expression e) = expr_size e
actual_size (actual.Variable o r) = 0
actual_size (actual.Part o ss r) = parts_size (parts_of ss.items)
actual_size (actual.Composite o ss) = parts_size (parts_of ss.items)

abbrev pub selector_size : Selector → ℕ
selector_size (selector.Component n) = 0
selector_size (selector.Element r e) = expr_size e

first_actual : (a : Actual) (rest : tree.Actuals) → actual_size a + actuals_size rest + 1 ≡ actuals_size (with_actual a rest)
first_actual (actual.Expression e) rest = omega arith
first_actual (actual.Variable o r) rest = omega arith
first_actual (actual.Part o ss r) rest = omega arith
first_actual (actual.Composite o ss) rest = omega arith

pub actual_within : (xs : List Actual) (i : ℕ) (d : Actual) → i < length xs → actual_size (get_or xs i d) + 1 ≤ actuals_size (actuals_of xs)
actual_within [] i d h = absurd (omega arith)
actual_within (x ∷ xs) zero d h = omega (arith, first_actual x (actuals_of xs))
actual_within (x ∷ xs) (suc i) d h = omega (arith, first_actual x (actuals_of xs), actual_within xs i d (omega arith))

first_selector : (s : Selector) (rest : tree.Parts) → selector_size s + parts_size rest + 1 ≡ parts_size (with_selector s rest)
first_selector (selector.Component n) rest = omega arith
first_selector (selector.Element r e) rest = omega arith

pub selector_within : (ss : List Selector) (i : ℕ) (d : Selector) → i < length ss → selector_size (get_or ss i d) + 1 ≤ parts_size (parts_of ss)
selector_within [] i d h = absurd (omega arith)
selector_within (s ∷ ss) zero d h = omega (arith, first_selector s (parts_of ss))
selector_within (s ∷ ss) (suc i) d h = omega (arith, first_selector s (parts_of ss), selector_within ss i d (omega arith))
