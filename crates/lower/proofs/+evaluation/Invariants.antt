use Rattle.std.proofs.Common.{◌≡◌, ◌+◌, ◌*◌, ◌≤◌, drop, length}
use Rattle.ada_tree.proofs.Chains.{operands_size, tests_size, selector_size, actual_size}
use Rattle.ada_tree.specs.Sizes.{expr_size, test_size, parts_size, actuals_size}
use Rattle.ada_tree.specs.Programs.{target_of}
use Rattle.ada_tree.specs.View.{neutral_of, parts_of, actuals_of, object_of}
use Rattle.kernel_ir.specs.Sequence.{joined}
use Rattle.kernel_ir.specs.Tree.{Nodes}
use Rattle.lower.specs.Context.{shape_named, text, parameters_for}
use Rattle.lower.specs.Forms.{with_nodes}
use Rattle.lower.specs.Pieces.{operands_for, operand_nodes_for, parts_for, actuals_for, located_for}
use Rattle.lower.proofs.+evaluation.Given as goal

abbrev pub decreases-value::put_value : goal.decreases-value::put_value
decreases-value::put_value l = 4 * expr_size l.expr.now

abbrev pub decreases-value::put_operands : goal.decreases-value::put_operands
decreases-value::put_operands l = 4 * operands_size l.operands.now + 1

-- what is left to put, behind what was put, is the whole
abbrev pub invariant-value::put_operands-loop-operand : goal.invariant-value::put_operands-loop-operand
invariant-value::put_operands-loop-operand l =
    (joined l.code (operands_for l.context l.to (drop l.operand-index l.operands)) ≡ joined l.fn.code (operands_for l.fn.context l.fn.to l.fn.operands))
    × (l.right ≡ l.to + 1)

abbrev pub decreases-value::put_relation : goal.decreases-value::put_relation
decreases-value::put_relation l = 4 * (expr_size l.left.now + expr_size l.right.now) + 1

abbrev pub decreases-parts::put_selector : goal.decreases-parts::put_selector
decreases-parts::put_selector l = 4 * selector_size l.selector.now + 1

abbrev pub decreases-parts::put_located : goal.decreases-parts::put_located
decreases-parts::put_located l = 4 * parts_size (parts_of l.selectors.now) + 2

abbrev pub decreases-calls::put_actual : goal.decreases-calls::put_actual
decreases-calls::put_actual l = 4 * actual_size l.actual.now + 3

abbrev pub decreases-calls::put_call : goal.decreases-calls::put_call
decreases-calls::put_call l = 4 * actuals_size (actuals_of l.actuals.now) + 1

abbrev pub decreases-nodes::put_decision : goal.decreases-nodes::put_decision
decreases-nodes::put_decision l = 4 * test_size l.test.now + 1

abbrev pub decreases-nodes::put_nodes : goal.decreases-nodes::put_nodes
decreases-nodes::put_nodes l = 4 * test_size l.test.now

abbrev pub decreases-nodes::put_operand_nodes : goal.decreases-nodes::put_operand_nodes
decreases-nodes::put_operand_nodes l = 4 * tests_size l.operands.now + 1

abbrev pub decreases-nodes::put_operand_nodes-loop-operand : goal.decreases-nodes::put_operand_nodes-loop-operand
decreases-nodes::put_operand_nodes-loop-operand l = length l.left

abbrev pub invariant-nodes::put_operand_nodes-loop-operand : goal.invariant-nodes::put_operand_nodes-loop-operand
invariant-nodes::put_operand_nodes-loop-operand l =
    ((rest : Nodes)
    → with_nodes l.nodes.items (operand_nodes_for l.context l.slot (neutral_of l.form) l.left l.edges.on_true l.edges.on_false rest)
    ≡ with_nodes l.fn.nodes.items (operand_nodes_for l.fn.context l.fn.slot (neutral_of l.fn.form) l.fn.operands l.fn.edges.on_true l.fn.edges.on_false rest))
    × (tests_size l.left ≤ tests_size l.fn.operands)

abbrev pub invariant-parts::put_located-loop-selector : goal.invariant-parts::put_located-loop-selector
invariant-parts::put_located-loop-selector l =
    joined l.code (parts_for l.context l.to (shape_named (text l.context) l.of) (parts_of (drop l.selector-index l.selectors)))
    ≡ joined l.fn.code (located_for l.fn.context l.fn.to (object_of l.fn.object) (parts_of l.fn.selectors))

abbrev pub invariant-calls::put_call-loop-place : goal.invariant-calls::put_call-loop-place
invariant-calls::put_call-loop-place l =
    joined l.code (actuals_for l.context l.slot (drop l.place (parameters_for l.context (target_of l.target))) (actuals_of (drop l.place l.actuals)))
    ≡ joined l.fn.code (actuals_for l.fn.context l.fn.to (parameters_for l.fn.context (target_of l.fn.target)) (actuals_of l.fn.actuals))
