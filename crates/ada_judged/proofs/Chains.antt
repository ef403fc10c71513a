-- Chains of operators.
use Rattle.std.proofs.Common.{◌≡◌, Bool, List, [], ◌∷◌, ◌++◌, refl, ap}
use Rattle.ada_meaning.specs.Tree.{Expr, Test, operator, Parts, whole, component, element}
use Rattle.ada_entities.specs.ada_rules.specs.Entities.{Variable}
use Rattle.ada_meaning.specs.Types.{Static}
use Rattle.ada_tree.specs.View as tree
use Rattle.ada_tree.specs.declared.expr.Operand.{Operand}
use Rattle.ada_tree.specs.declared.expr.Selector.{Selector}
use Rattle.ada_tree.specs.declared.expr.Selector.TheVariants as selector
use Rattle.ada_entities.specs.ada_rules.specs.Denoted.{followed_by}
use Rattle.ada_judged.specs.declared.static_tree.StaticOperand.{StaticOperand}
use Rattle.ada_judged.specs.StaticView.{with_operand, with_operands}

-- one more operator
pub operands_push : (a : Static) (os : List StaticOperand) (o : StaticOperand) → with_operands a (os ++ o ∷ []) ≡ with_operand (with_operands a os) o
operands_push a [] o = refl
operands_push a (x ∷ os) o = operands_push (with_operand a x) os o

pub expr_push : (a : Expr) (os : List Operand) (o : Operand) → tree.with_operands a (os ++ o ∷ []) ≡ tree.with_operand (tree.with_operands a os) o
expr_push a [] o = refl
expr_push a (x ∷ os) o = expr_push (tree.with_operand a x) os o

pub tests_push : (n : Bool) (t : Test) (us : List Test) (u : Test) → tree.with_tests n t (us ++ u ∷ []) ≡ operator n (tree.with_tests n t us) u
tests_push n t [] u = refl
tests_push n t (v ∷ us) u = tests_push n (operator n t v) us u

-- one more selector of a name
pub parts_push : (ss : List Selector) (s : Selector) → tree.parts_of (ss ++ s ∷ []) ≡ followed_by (tree.parts_of ss) (tree.with_selector s whole)
parts_push [] s = refl
parts_push (selector.Component n ∷ ss) s = ap (component n) (parts_push ss s)
parts_push (selector.Element r e ∷ ss) s = ap (element (tree.scalar_range_of r) e) (parts_push ss s)

-- an object with other selectors
pub other_parts : (v : Variable) (p q : Parts) (b c : Bool) → p ≡ q → b ≡ c → record v { parts = p; is_indexed = b } ≡ record v { parts = q; is_indexed = c }
other_parts v p q b c e f = λ z. record v { parts = e z; is_indexed = f z }
