-- How far chains work: as far as the farthest of their parts.
use Rattle.std.proofs.Common.{◌≡◌, ℕ, ◌+◌, ◌<◌, max, Bool, true, false, List, [], ◌∷◌, length, refl, arith}
use Rattle.std.proofs.lemmas.Bool.{false≢true, true≢false}
use Rattle.ada_meaning.specs.Tree as tree
use Rattle.ada_tree.specs.declared.expr.Actual.{Actual}
use Rattle.ada_tree.specs.declared.expr.Actual.TheVariants as actual
use Rattle.ada_tree.specs.declared.expr.Operand.{Operand}
use Rattle.ada_tree.specs.declared.expr.Selector.{Selector}
use Rattle.ada_tree.specs.declared.expr.Selector.TheVariants as selector
use Rattle.ada_meaning.specs.Types as type
use Rattle.ada_tree.specs.declared.statement.Indices.{Indices}
use Rattle.ada_tree.specs.declared.statement.NewValue.{NewValue}
use Rattle.ada_tree.specs.declared.statement.NewValue.TheVariants as value
use Rattle.ada_tree.specs.declared.types.ScalarRange.{ScalarRange}
use Rattle.ada_tree.specs.View.{operator_of, with_operands, with_tests, with_selector, with_actual, others_of, others_by, value_of, parts_of, object_of, scalar_range_of, is_filled}
use Rattle.frame_widths.specs.Chains.{end_of_operands, end_of_tests, end_of_selector, end_of_actual, part_slots, slots_of}
use Rattle.frame_widths.specs.Ends.{end_of, end_of_actuals, end_of_parts, end_of_test, end_of_value, end_of_assignment}
use Rattle.frame_widths.proofs.Above.{end_is_above, actuals_are_above, parts_are_above, test_is_above}
use Rattle.frame_widths.proofs.Behind.{value_behind}

pub operands_end : (k : ℕ) (e : tree.Expr) (os : List Operand) → end_of k (with_operands e os) ≡ max (end_of k e) (end_of_operands k os)
operands_end k e [] = omega (arith, end_is_above k e)
operands_end k e (o ∷ os) = omega (arith, operands_end k (tree.operation (operator_of o.operator) e o.operand) os)

pub tests_end : (k : ℕ) (neutral : Bool) (t : tree.Test) (us : List tree.Test)
    → end_of_test k (with_tests neutral t us) ≡ max (end_of_test k t) (end_of_tests k us)
tests_end k neutral t [] = omega (arith, test_is_above k t)
tests_end k neutral t (u ∷ us) = omega (arith, tests_end k neutral (tree.operator neutral t u) us)

pub selector_end : (k : ℕ) (s : Selector) (parts : tree.Parts) → end_of_parts k (with_selector s parts) ≡ max (end_of_selector k s) (end_of_parts k parts)
selector_end k (selector.Component n) parts = omega (arith, parts_are_above k parts)
selector_end k (selector.Element r e) parts = omega arith

part_end : (k : ℕ) (o : tree.Object) (r : type.Range) (ss : List Selector) (rest : tree.Actuals)
    → end_of_actuals k (tree.by_variable o (parts_of ss) r rest) ≡ max (end_of_parts k (parts_of ss)) (end_of_actuals (k + part_slots ss) rest)
part_end k o r [] rest = omega (arith, actuals_are_above (k + 1) rest)
part_end k o r (selector.Component n ∷ ss) rest = omega arith
part_end k o r (selector.Element q e ∷ ss) rest = omega arith

-- an actual, and those behind the slots that it keeps
pub actual_end : (k : ℕ) (a : Actual) (rest : tree.Actuals) → end_of_actuals k (with_actual a rest) ≡ max (end_of_actual k a) (end_of_actuals (k + slots_of a) rest)
actual_end k (actual.Expression e) rest = omega arith
actual_end k (actual.Variable o r) rest = omega (arith, actuals_are_above (k + 1) rest)
actual_end k (actual.Part o ss r) rest = part_end k (object_of o) (scalar_range_of r) ss.items rest
actual_end k (actual.Composite o ss) rest = omega arith

value_is_above : (j : ℕ) (v : tree.NewValue) → j < end_of_value j v
value_is_above j (tree.scalar_value r e) = end_is_above j e
value_is_above j (tree.composite_value t o parts) = parts_are_above j parts
value_is_above j (tree.others_value r v) = omega arith

-- a value round which `others` stands so many times
others_within : (j : ℕ) (rs : List ScalarRange) (v : tree.NewValue) → end_of_value j (others_of rs v) ≡ length rs + end_of_value j v
others_within j [] v = omega arith
others_within j (r ∷ rs) v =
    omega (arith, value_behind 1 (j + 1) j (others_of rs v) (omega arith), others_within j rs v, value_is_above j v)

pub others_end : (i : Indices) (v : tree.NewValue) → end_of_value 0 (others_by i v) ≡ length i.inner + 1 + end_of_value 0 v
others_end i v = omega (arith, value_behind 1 1 0 (others_of i.inner v) (omega arith), others_within 0 i.inner v, value_is_above 0 v)

-- an assignment to a part, and one of a composite value to a whole object
pub part_assigned : (ss : List Selector) (v : tree.NewValue) → is_filled ss ≡ true
    → end_of_assignment 0 (parts_of ss) v ≡ max (end_of_parts 0 (parts_of ss)) (1 + end_of_value 0 v)
part_assigned [] v is = absurd (false≢true is)
part_assigned (selector.Component n ∷ ss) v is = omega (arith, value_behind 1 1 0 v (omega arith))
part_assigned (selector.Element r e ∷ ss) v is = omega (arith, value_behind 1 1 0 v (omega arith))

composite_assigned : (v : tree.NewValue) → end_of_assignment 0 tree.whole v ≡ max 1 (end_of_value 1 v)
    → end_of_assignment 0 tree.whole v ≡ 1 + end_of_value 0 v
composite_assigned v is = omega (arith, is, value_behind 1 1 0 v (omega arith), value_is_above 0 v)

pub whole_assigned : (ss : List Selector) (v : NewValue) → is_filled ss ≡ false → ((r : ScalarRange) (e : tree.Expr) → v ≡ value.Scalar r e → ⊥)
    → end_of_assignment 0 (parts_of ss) (value_of v) ≡ 1 + end_of_value 0 (value_of v)
whole_assigned (s ∷ ss) v none not = absurd (true≢false none)
whole_assigned [] (value.Scalar r e) none not = absurd (not r e refl)
whole_assigned [] (value.Composite w n o ss) none not = composite_assigned (value_of (value.Composite w n o ss)) refl
whole_assigned [] (value.OthersScalar i r e) none not = composite_assigned (value_of (value.OthersScalar i r e)) refl
whole_assigned [] (value.OthersComposite i w n o ss) none not = composite_assigned (value_of (value.OthersComposite i w n o ss)) refl
