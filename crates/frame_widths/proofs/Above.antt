-- A value takes a slot at least.
use Rattle.std.proofs.Common.{ℕ, ◌+◌, ◌<◌, arith}
use Rattle.ada_meaning.specs.Tree as tree
use Rattle.frame_widths.specs.Ends.{end_of, end_of_actuals, end_of_parts, end_of_test}

mutual
  pub end_is_above : (k : ℕ) (e : tree.Expr) → k < end_of k e
  end_is_above k (tree.literal x) = omega arith
  end_is_above k (tree.constant e) = omega arith
  end_is_above k (tree.attribute o parts e) = parts_are_above k parts
  end_is_above k (tree.read o parts) = parts_are_above k parts
  end_is_above k (tree.signed s e) = end_is_above k e
  end_is_above k (tree.operation o e f) = omega (arith, end_is_above k e)
  end_is_above k (tree.relation r e f) = omega (arith, end_is_above k e)
  end_is_above k (tree.complement e) = end_is_above k e
  end_is_above k (tree.conversion r e) = end_is_above k e
  end_is_above k (tree.call c actuals) = actuals_are_above k actuals
  end_is_above k (tree.decision d t) = test_is_above k t

  pub actuals_are_above : (k : ℕ) (actuals : tree.Actuals) → k < end_of_actuals k actuals
  actuals_are_above k tree.no_actual = omega arith
  actuals_are_above k (tree.by_expression e rest) = omega (arith, end_is_above k e)
  actuals_are_above k (tree.by_variable o tree.whole r rest) = omega (arith, actuals_are_above (k + 1) rest)
  actuals_are_above k (tree.by_variable o (tree.component n parts) r rest) = omega (arith, actuals_are_above (k + 2) rest)
  actuals_are_above k (tree.by_variable o (tree.element q e parts) r rest) = omega (arith, actuals_are_above (k + 2) rest)
  actuals_are_above k (tree.by_composite o parts rest) = omega (arith, actuals_are_above (k + 1) rest)

  pub parts_are_above : (k : ℕ) (parts : tree.Parts) → k < end_of_parts k parts
  parts_are_above k tree.whole = omega arith
  parts_are_above k (tree.component n parts) = parts_are_above k parts
  parts_are_above k (tree.element r e parts) = omega (arith, parts_are_above k parts)

  pub test_is_above : (k : ℕ) (t : tree.Test) → k < end_of_test k t
  test_is_above k (tree.condition at e) = end_is_above k e
  test_is_above k (tree.negation t) = test_is_above k t
  test_is_above k (tree.operator neutral t u) = omega (arith, test_is_above k t)
