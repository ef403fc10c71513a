use Rattle.std.proofs.Common.{◌≡◌, ◌+◌, ◌*◌, drop}
use Rattle.kernel_ir.specs.Tree.{code_size, op_size, nodes_size}
use Rattle.kernel_ir.specs.TreeView.{ops_of, op_of, nodes_of}
use Rattle.kernel_code.specs.Code.{code_length, nodes_length}
use Rattle.codegen_rv32.proofs.lengths.+lengths.Given as goal

abbrev pub decreases-code_length : goal.decreases-code_length
decreases-code_length l = 3 * code_size l.code.now + 1

abbrev pub decreases-ops_length : goal.decreases-ops_length
decreases-ops_length l = 3 * code_size (ops_of l.ops.now)

abbrev pub decreases-op_length : goal.decreases-op_length
decreases-op_length l = 3 * op_size (op_of l.op.now)

abbrev pub decreases-both_lengths : goal.decreases-both_lengths
decreases-both_lengths l = 3 * (code_size l.first.now + code_size l.second.now) + 2

abbrev pub decreases-nodes_length : goal.decreases-nodes_length
decreases-nodes_length l = 3 * nodes_size (nodes_of l.nodes.now) + 2

abbrev pub invariant-nodes_length-loop-node : goal.invariant-nodes_length-loop-node
invariant-nodes_length-loop-node l = l.sum + nodes_length (nodes_of (drop l.node-index l.nodes)) ≡ nodes_length (nodes_of l.fn.nodes)

abbrev pub invariant-ops_length-loop-op : goal.invariant-ops_length-loop-op
invariant-ops_length-loop-op l = l.sum + code_length (ops_of (drop l.op-index l.ops)) ≡ code_length (ops_of l.fn.ops)
