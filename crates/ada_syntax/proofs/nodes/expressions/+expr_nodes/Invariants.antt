use Rattle.std.proofs.Common.{◌≡◌, ◌+◌, ◌*◌, drop, sum_by}
use Rattle.ada_syntax.specs.Nodes as count
use Rattle.ada_syntax.specs.Nodes.{capped}
use Rattle.ada_syntax.specs.Tree.{expr_size, name_size}
use Rattle.ada_syntax.proofs.SizeLaws.{operand_size, suffix_size}
use Rattle.ada_syntax.proofs.nodes.expressions.+expr_nodes.Given as goal

abbrev pub decreases-nodes_of_expr : goal.decreases-nodes_of_expr
decreases-nodes_of_expr l = 4 * expr_size l.expr.now

abbrev pub decreases-nodes_of_name : goal.decreases-nodes_of_name
decreases-nodes_of_name l = 4 * name_size l.name.now

abbrev pub decreases-nodes_of_suffix : goal.decreases-nodes_of_suffix
decreases-nodes_of_suffix l = 4 * suffix_size l.suffix.now + 2

abbrev pub decreases-nodes_of_operands : goal.decreases-nodes_of_operands
decreases-nodes_of_operands l = 4 * sum_by operand_size l.operands.now + 1

abbrev pub decreases-nodes_of_joined : goal.decreases-nodes_of_joined
decreases-nodes_of_joined l = 4 * sum_by expr_size l.exprs.now + 1

abbrev pub decreases-nodes_of_exprs : goal.decreases-nodes_of_exprs
decreases-nodes_of_exprs l = 4 * sum_by expr_size l.exprs.now + 1

abbrev pub decreases-nodes_of_suffixes : goal.decreases-nodes_of_suffixes
decreases-nodes_of_suffixes l = 4 * sum_by suffix_size l.suffixes.now + 3

abbrev pub invariant-nodes_of_operands-loop-operand : goal.invariant-nodes_of_operands-loop-operand
invariant-nodes_of_operands-loop-operand l = (capped l.nodes ≡ l.nodes) × (capped (l.nodes + sum_by count.operand_nodes (drop l.operand-index l.operands)) ≡ capped (sum_by count.operand_nodes l.operands))

abbrev pub invariant-nodes_of_joined-loop-expr : goal.invariant-nodes_of_joined-loop-expr
invariant-nodes_of_joined-loop-expr l = (capped l.nodes ≡ l.nodes) × (capped (l.nodes + sum_by (count.joined_nodes l.operator) (drop l.expr-index l.exprs)) ≡ capped (sum_by (count.joined_nodes l.operator) l.exprs))

abbrev pub invariant-nodes_of_exprs-loop-expr : goal.invariant-nodes_of_exprs-loop-expr
invariant-nodes_of_exprs-loop-expr l = (capped l.nodes ≡ l.nodes) × (capped (l.nodes + sum_by count.expr_nodes (drop l.expr-index l.exprs)) ≡ capped (sum_by count.expr_nodes l.exprs))

abbrev pub invariant-nodes_of_suffixes-loop-suffix : goal.invariant-nodes_of_suffixes-loop-suffix
invariant-nodes_of_suffixes-loop-suffix l = (capped l.nodes ≡ l.nodes) × (capped (l.nodes + sum_by count.suffix_nodes (drop l.suffix-index l.suffixes)) ≡ capped (sum_by count.suffix_nodes l.suffixes))
