-- How far the code of single operands, selectors and actuals of a chain works, from the slot k on.
use Rattle.std.specs.Prelude.{ℕ, ◌+◌, max, List, [], ◌∷◌}
use Rattle.ada_meaning.specs.Tree as tree
use Rattle.ada_tree.specs.declared.expr.Actual.{Actual}
use Rattle.ada_tree.specs.declared.expr.Actual.TheVariants as actual
use Rattle.ada_tree.specs.declared.expr.Operand.{Operand}
use Rattle.ada_tree.specs.declared.expr.Selector.{Selector}
use Rattle.ada_tree.specs.declared.expr.Selector.TheVariants as selector
use Rattle.ada_tree.specs.View.{parts_of}
use Rattle.frame_widths.specs.Ends.{end_of, end_of_parts, end_of_test}

-- of the right operands of a chain, where k holds what stands left of them (RM 4.5)
abbrev pub end_of_operands : (k : ℕ) → List Operand → ℕ
end_of_operands k [] = k
end_of_operands k (o ∷ os) = max (end_of (k + 1) o.operand) (end_of_operands k os)

-- of operands of a short-circuit control form (RM 4.5.1)
abbrev pub end_of_tests : (k : ℕ) → List tree.Test → ℕ
end_of_tests k [] = k
end_of_tests k (t ∷ ts) = max (end_of_test k t) (end_of_tests k ts)

-- of a selector, where k holds the address of what it is a part of (RM 4.1.1, 4.1.3)
abbrev pub end_of_selector : (k : ℕ) → Selector → ℕ
end_of_selector k (selector.Component n) = k + 1
end_of_selector k (selector.Element r e) = end_of (k + 1) e

-- of an actual (RM 6.4.1)
abbrev pub end_of_actual : (k : ℕ) → Actual → ℕ
end_of_actual k (actual.Expression e) = end_of k e
end_of_actual k (actual.Variable o r) = k + 1
end_of_actual k (actual.Part o ss r) = end_of_parts k (parts_of ss.items)
end_of_actual k (actual.Composite o ss) = end_of_parts k (parts_of ss.items)

-- how many slots an actual keeps until the call: one, and one more for the address of a part of a variable
abbrev pub part_slots : List Selector → ℕ
part_slots [] = 1
part_slots (s ∷ ss) = 2

abbrev pub slots_of : Actual → ℕ
slots_of (actual.Expression e) = 1
slots_of (actual.Variable o r) = 1
slots_of (actual.Part o ss r) = part_slots ss.items
slots_of (actual.Composite o ss) = 1
