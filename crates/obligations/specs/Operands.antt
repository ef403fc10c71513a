-- The decisions in operands right of a first one, in selectors and in actual parameters.
use Rattle.std.specs.Prelude.{ℕ, List, [], ◌∷◌, ◌++◌}
use Rattle.ada_meaning.specs.Collected.{Decision, in_expr, in_parts}
use Rattle.ada_tree.specs.declared.expr.Actual.{Actual}
use Rattle.ada_tree.specs.declared.expr.Actual.TheVariants as actual
use Rattle.ada_tree.specs.declared.expr.Operand.{Operand}
use Rattle.ada_tree.specs.declared.expr.Selector.{Selector}
use Rattle.ada_tree.specs.declared.expr.Selector.TheVariants as selector
use Rattle.ada_tree.specs.View.{parts_of}

-- the decisions in the operands of a chain
abbrev pub in_operands : ℕ → List Operand → List Decision
in_operands statement [] = []
in_operands statement (o ∷ os) = in_expr statement o.operand ++ in_operands statement os

-- those in a selector of a name
abbrev pub in_selector : ℕ → Selector → List Decision
in_selector statement (selector.Component n) = []
in_selector statement (selector.Element r e) = in_expr statement e

-- those in an actual parameter
abbrev pub in_actual : ℕ → Actual → List Decision
in_actual statement (actual.Expression e) = in_expr statement e
in_actual statement (actual.Variable o r) = []
in_actual statement (actual.Part o ss r) = in_parts statement (parts_of ss.items)
in_actual statement (actual.Composite o ss) = in_parts statement (parts_of ss.items)
