-- The decisions in the parts of an expression.
use Rattle.std.proofs.Common.{◌≡◌, ℕ, List, [], ◌∷◌, ◌++◌, refl, sym, ◌∙◌}
use Rattle.std.proofs.lemmas.List.{append_assoc, append-nil}
use Rattle.ada_meaning.specs.Collected.{in_expr, in_parts, in_actuals, in_value}
use Rattle.ada_meaning.specs.Tree as tree
use Rattle.ada_tree.specs.declared.expr.Actual.{Actual}
use Rattle.ada_tree.specs.declared.expr.Actual.TheVariants as actual
use Rattle.ada_tree.specs.declared.expr.Operand.{Operand}
use Rattle.ada_tree.specs.declared.expr.Selector.{Selector}
use Rattle.ada_tree.specs.declared.expr.Selector.TheVariants as selector
use Rattle.ada_tree.specs.declared.statement.Indices.{Indices}
use Rattle.ada_tree.specs.declared.types.ScalarRange.{ScalarRange}
use Rattle.ada_tree.specs.View.{operator_of, with_operands, parts_of, actuals_of, others_of, others_by}
use Rattle.obligations.specs.Operands.{in_operands, in_selector, in_actual}

-- a chain has those of its first operand, and then those of the others
pub in_chain : (n : ℕ) (e : tree.Expr) (os : List Operand) → in_expr n (with_operands e os) ≡ in_expr n e ++ in_operands n os
in_chain n e [] = sym (append-nil (in_expr n e))
in_chain n e (o ∷ os) =
    in_chain n (tree.operation (operator_of o.operator) e o.operand) os ∙ append_assoc (in_expr n e) (in_expr n o.operand) (in_operands n os)

-- actuals have those of the first one, and then those of the others
pub actuals_front : (n : ℕ) (a : Actual) (rest : List Actual) → in_actuals n (actuals_of (a ∷ rest)) ≡ in_actual n a ++ in_actuals n (actuals_of rest)
actuals_front n (actual.Expression e) rest = refl
actuals_front n (actual.Variable o r) rest = refl
actuals_front n (actual.Part o ss r) rest = refl
actuals_front n (actual.Composite o ss) rest = refl

-- selectors likewise
pub parts_front : (n : ℕ) (s : Selector) (ss : List Selector) → in_parts n (parts_of (s ∷ ss)) ≡ in_selector n s ++ in_parts n (parts_of ss)
parts_front n (selector.Component k) ss = refl
parts_front n (selector.Element r e) ss = refl

-- (others => ..) holds those of its value
others_held : (n : ℕ) (rs : List ScalarRange) (v : tree.NewValue) → in_value n (others_of rs v) ≡ in_value n v
others_held n [] v = refl
others_held n (r ∷ rs) v = others_held n rs v

pub value_held : (n : ℕ) (i : Indices) (v : tree.NewValue) → in_value n (others_by i v) ≡ in_value n v
value_held n i v = others_held n i.inner v
