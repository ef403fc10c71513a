use Rattle.std.proofs.Common.{◌≡◌, ◌+◌, ◌*◌, ◌++◌, drop}
use Rattle.kernel_ir.specs.Tree.{code_size, op_size, nodes_size}
use Rattle.kernel_ir.specs.TreeView.{ops_of, op_of, nodes_of}
use Rattle.kernel_code.specs.Code.{code_lines}
use Rattle.kernel_code.specs.Set.{setting_of}
use Rattle.codegen_rv32.specs.Set.{targets_of}
use Rattle.codegen_rv32.proofs.structure.+structure.Given as goal

abbrev pub decreases-put_code : goal.decreases-put_code
decreases-put_code l = 4 * code_size l.code.now + 1

abbrev pub decreases-put_operations : goal.decreases-put_operations
decreases-put_operations l = 4 * code_size (ops_of l.ops.now)

abbrev pub decreases-put_operation : goal.decreases-put_operation
decreases-put_operation l = 4 * op_size (op_of l.op.now)

abbrev pub decreases-put_choose : goal.decreases-put_choose
decreases-put_choose l = 4 * (code_size l.if_true.now + code_size l.if_false.now) + 2

abbrev pub decreases-put_repeat : goal.decreases-put_repeat
decreases-put_repeat l = 4 * code_size l.body.now + 2

abbrev pub decreases-put_catch : goal.decreases-put_catch
decreases-put_catch l = 4 * (code_size l.body.now + code_size l.handler.now) + 2

abbrev pub decreases-put_decide : goal.decreases-put_decide
decreases-put_decide l = 4 * nodes_size (nodes_of l.nodes.now) + 3

abbrev pub decreases-put_nodes : goal.decreases-put_nodes
decreases-put_nodes l = 4 * nodes_size (nodes_of l.nodes.now) + 2

abbrev pub invariant-put_operations-loop-op : goal.invariant-put_operations-loop-op
invariant-put_operations-loop-op l =
    l.emitter ++ code_lines (setting_of l.frame) (targets_of l.targets) l.at (ops_of (drop l.op-index l.ops))
    ≡ l.fn.emitter ++ code_lines (setting_of l.fn.frame) (targets_of l.fn.targets) l.fn.place (ops_of l.fn.ops)
