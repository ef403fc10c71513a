-- The code of decisions, loops over a range, and choices.
use Rattle.std.specs.Prelude.{ℕ, ◌+◌, ℤ, pos, negsuc, Bool, true, false, List, [], ◌∷◌}
use Rattle.ada_meaning.specs.Shape.{Shape}
use Rattle.ada_meaning.specs.Tree as tree
use Rattle.kernel_ir.specs.declared.code.Edge.TheVariants as edge
use Rattle.kernel_ir.specs.declared.simple.Relation.TheVariants as relation
use Rattle.kernel_ir.specs.declared.simple.Simple.TheVariants as op
use Rattle.kernel_ir.specs.Sequence.{joined}
use Rattle.kernel_ir.specs.Tree.{Op, simple, choose, for_loop, exit, decide, Code, no_op, and_op, no_node}
use Rattle.statement_code.specs.Names.{Names}
use Rattle.statement_code.specs.Values.{single, one, Home, nodes_code, Site}

-- a turn of a loop over a range: the slot h holds the parameter's value, and the next one its last value; the object in the slot d is set to
-- it before the body, and the test whether it was the last one stands behind it
abbrev pub counted_code : (h k d : ℕ) → (step : ℤ) → Code → Code
counted_code h k d step body =
    and_op (simple (op.Move d h))
    (joined body (and_op (simple (op.Compare relation.Equal k h (h + 1))) (single (choose k (single exit) (one (op.Advance h h step))))))

-- a loop over the range between the values of the slots h and h + 1, rising, or falling for a reverse loop; without a value there is no turn
abbrev pub range_code : (h k d : ℕ) → Bool → Code → Code
range_code h k d false body =
    and_op (simple (op.Compare relation.AtMost k h (h + 1))) (single (choose k (single (for_loop (counted_code h k d (pos 1) body))) no_op))
range_code h k d true body =
    and_op (simple (op.Compare relation.AtMost k h (h + 1)))
    (single (choose k
    (and_op (simple (op.Move k h)) (and_op (simple (op.Move h (h + 1))) (and_op (simple (op.Move (h + 1) k))
    (single (for_loop (counted_code h k d (negsuc 0) body)))))) no_op))

module _ (names : Names) (shape_of : tree.Object → Shape) (home_of : tree.Object → Home) (site : Site) where
  -- evaluates a decision, into the slot k
  abbrev pub decide_on : (k : ℕ) → tree.Label → tree.Test → Op
  decide_on k d t =
      decide (record { 0 = d.number }) (record { 0 = names.instance }) k (nodes_code names shape_of home_of site k t (edge.Leaf true) (edge.Leaf false) no_node)

  -- evaluates a decision, and goes on with the first code where it is True, and else with the second
  abbrev pub decided_code : (k : ℕ) → tree.Label → tree.Test → (if_true if_false : Code) → Code
  decided_code k d t a b = and_op (decide_on k d t) (single (choose k a b))

  -- whether the value in the slot k is among those of a choice, and of choices in order, into the slot k + 1, which holds False before (RM 5.4)
  abbrev pub choice_code : (k : ℕ) → tree.Choice → Code
  choice_code k (tree.value_choice e) =
      and_op (simple (op.Number (k + 2) (names.number e))) (one (op.Compare relation.Equal (k + 1) k (k + 2)))
  choice_code k (tree.range_choice e f) =
      and_op (simple (op.Number (k + 2) (names.number e))) (and_op (simple (op.Compare relation.AtMost (k + 1) (k + 2) k))
      (single (choose (k + 1)
      (and_op (simple (op.Number (k + 2) (names.number f))) (one (op.Compare relation.AtMost (k + 1) k (k + 2)))) no_op)))
  choice_code k tree.other_values = one (op.Number (k + 1) (pos 1))

  abbrev pub choices_code : (k : ℕ) → List tree.Choice → Code
  choices_code k [] = one (op.Number (k + 1) (pos 0))
  choices_code k (c ∷ cs) = joined (choice_code k c) (single (choose (k + 1) no_op (choices_code k cs)))
