-- The pieces that code of expressions is put together of, by what the code of a body is made by.
use Rattle.std.specs.Prelude.{ℕ, ◌+◌, Bool, true, false, List, [], ◌∷◌}
use Rattle.ada_meaning.specs.Program.{Bounds, Mode, Target}
use Rattle.ada_meaning.specs.Resolved.{ResolvedParameter}
use Rattle.ada_meaning.specs.Shape.{Shape}
use Rattle.ada_meaning.specs.Tree as tree
use Rattle.ada_tree.specs.declared.expr.Actual.{Actual}
use Rattle.ada_tree.specs.declared.expr.Actual.TheVariants as actual
use Rattle.ada_tree.specs.declared.expr.Object.{Object}
use Rattle.ada_tree.specs.declared.expr.Operand.{Operand}
use Rattle.ada_tree.specs.declared.expr.Selector.{Selector}
use Rattle.ada_tree.specs.View.{object_of, operator_of, parts_of}
use Rattle.kernel_ir.specs.declared.code.Edge.{Edge}
use Rattle.kernel_ir.specs.declared.code.Edge.TheVariants as edge
use Rattle.kernel_ir.specs.declared.simple.Simple.TheVariants as op
use Rattle.kernel_ir.specs.Sequence.{joined}
use Rattle.kernel_ir.specs.Tree.{Op, simple, decide, call, Code, no_op, and_op, Nodes, no_node}
use Rattle.statement_code.specs.Values.{single, one, within, address_on, fetch_on, operator_on, unless_out, body_number, moves_code, expr_code, actuals_code, parts_code, nodes_code}
use Rattle.lower.specs.declared.context.BodyContext.{BodyContext}
use Rattle.lower.specs.Context.{names_for, parameters_for, shape_for, home_for, site_for}
use Rattle.lower.specs.Forms.{true_before, false_before}

-- the value of a part whose address stands in the slot k, into the slot behind it, for a scalar parameter of a mode
abbrev pub loaded_on : (k : ℕ) → Mode → Bounds → Code
loaded_on k m b = unless_out m (and_op (simple (op.Load (k + 1) k)) (one (within (k + 1) b)))

module _ (c : BodyContext) where
  abbrev pub expr_for : (k : ℕ) → tree.Expr → Code
  expr_for k e = expr_code (names_for c) (shape_for c) (home_for c) (site_for c) k e

  abbrev pub parts_for : (k : ℕ) → Shape → tree.Parts → Code
  parts_for k s parts = parts_code (names_for c) (shape_for c) (home_for c) (site_for c) k s parts

  abbrev pub actuals_for : (k : ℕ) → List ResolvedParameter → tree.Actuals → Code
  actuals_for k qs actuals = actuals_code (names_for c) (shape_for c) (home_for c) (site_for c) k qs actuals

  abbrev pub nodes_for : (k : ℕ) → tree.Test → (on_true on_false : Edge) → Nodes → Nodes
  nodes_for k t f g rest = nodes_code (names_for c) (shape_for c) (home_for c) (site_for c) k t f g rest

  -- the evaluation of a decision, into the slot k
  abbrev pub decide_for : (k : ℕ) → tree.Label → tree.Test → Op
  decide_for k l t = decide (record { 0 = l.number }) (record { 0 = c.instance }) k (nodes_for k t (edge.Leaf true) (edge.Leaf false) no_node)

  -- the address of a part of an object, into the slot k
  abbrev pub located_for : (k : ℕ) → tree.Object → tree.Parts → Code
  located_for k o parts = and_op (simple (address_on k (home_for c o))) (parts_for k (shape_for c o) parts)

  -- an operator with its right operand, where k holds the left one
  abbrev pub operand_for : (k : ℕ) → Operand → Code
  operand_for k o = joined (expr_for (k + 1) o.operand) (one (operator_on k (operator_of o.operator)))

  abbrev pub operands_for : (k : ℕ) → List Operand → Code
  operands_for k [] = no_op
  operands_for k (o ∷ os) = joined (operand_for k o) (operands_for k os)

  -- the nodes of operands of a short-circuit control form before others
  abbrev pub operand_nodes_for : (k : ℕ) → (neutral : Bool) → List tree.Test → (on_true on_false : Edge) → Nodes → Nodes
  operand_nodes_for k neutral [] t f rest = rest
  operand_nodes_for k neutral (u ∷ us) t f rest =
      nodes_for k u (true_before neutral us t) (false_before neutral us f) (operand_nodes_for k neutral us t f rest)

  -- A variable, or a part of one, for a scalar parameter of a mode: unless the mode is out, its value is checked against the bounds of the
  -- parameter's subtype (RM 6.4.1).
  abbrev pub variable_for : (k : ℕ) → Mode → Bounds → Object → Code
  variable_for k m b o = unless_out m (and_op (simple (fetch_on k (home_for c (object_of o)))) (one (within k b)))

  abbrev pub part_for : (k : ℕ) → Mode → Bounds → Object → List Selector → Code
  part_for k m b o [] = variable_for k m b o
  part_for k m b o (s ∷ ss) =
      joined (located_for k (object_of o) (parts_of (s ∷ ss))) (loaded_on k m b)

  -- one actual
  abbrev pub actual_for : (k : ℕ) → Mode → Bounds → Actual → Code
  actual_for k m b (actual.Expression e) = joined (expr_for k e) (one (within k b))
  actual_for k m b (actual.Variable o r) = variable_for k m b o
  actual_for k m b (actual.Part o ss r) = part_for k m b o ss.items
  actual_for k m b (actual.Composite o ss) = located_for k (object_of o) (parts_of ss.items)

  -- a call of what has these parameters: the actuals, their values and addresses behind the frame, and the call
  abbrev pub call_for : (k : ℕ) → Target → tree.Actuals → Code
  call_for k t actuals =
      joined (actuals_for k (parameters_for c t) actuals) (joined (moves_code c.width k 0 actuals) (single (call (body_number (site_for c) t))))

  -- the value of an object, or of a part of one
  abbrev pub read_for : (k : ℕ) → Object → List Selector → Code
  read_for k o [] = one (fetch_on k (home_for c (object_of o)))
  read_for k o (s ∷ ss) = joined (located_for k (object_of o) (parts_of (s ∷ ss))) (one (op.Load k k))
