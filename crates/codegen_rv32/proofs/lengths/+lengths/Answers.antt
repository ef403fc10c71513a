use Rattle.std.proofs.Common.{◌≡◌, ◌+◌, ⊎_elim, ap, arith}
use Rattle.kernel_ir.specs.Tree.{op_size, code_size}
use Rattle.kernel_ir.specs.TreeView.{op_of, nodes_of}
use Rattle.kernel_ir.specs.declared.code.Node.{Node}
use Rattle.kernel_code.specs.Code.{op_length, code_length, nodes_length}
use Rattle.kernel_ir.proofs.SizeLaws.{op_within, node_within}
use Rattle.std.proofs.lemmas.Grind.{common_steps}
use Rattle.std.proofs.lemmas.Result.{IfOk-weaker}
use Rattle.codegen_rv32.proofs.lengths.+lengths.Goals as goal

pub ops_length-op_length-requires : goal.ops_length-op_length-requires
ops_length-op_length-requires t c = (
  omega (
    arith,
    c.decreases,
    op_within c.args.ops.now c.loop-op.op-index c.op-item.result (omega arith),
    ap
        (λ x. op_size (op_of x)) c.op-item.is,
  ),
  tt,
)

pub nodes_length-code_length-requires : goal.nodes_length-code_length-requires
nodes_length-code_length-requires t c = (
  omega (
    arith,
    c.decreases,
    node_within c.args.nodes.now c.loop-node.node-index c.node-item.result (omega arith),
    ap
        (λ (x : Node). code_size x.operand) c.node-item.is,
  ),
  tt,
)

pub nodes_length-loop-node-preserved : goal.nodes_length-loop-node-preserved
nodes_length-loop-node-preserved t c =
    let sum = c.in_ok-sum.ensures _ (c.behind.ensures _ c.code_length.ensures) in
    grind (arith, common_steps, sum)

pub ops_length-loop-op-preserved : goal.ops_length-loop-op-preserved
ops_length-loop-op-preserved t c =
    let sum = c.in_ok-sum.ensures _ c.op_length.ensures in
    grind (arith, common_steps, sum)

pub nodes_length-returns : goal.nodes_length-returns
nodes_length-returns t c = grind (arith, common_steps)

pub ops_length-returns : goal.ops_length-returns
ops_length-returns t c = grind (arith, common_steps)

pub both_lengths-returns : goal.both_lengths-returns
both_lengths-returns t c =
    let before = c.in_ok-before.ensures _ c.code_length.ensures in
    IfOk-weaker c.behind-2.result _ _ (λ n is. omega (arith, before, is)) (c.behind-2.ensures _ c.code_length-2.ensures)

pub op_length-returns-in-Forever : goal.op_length-returns-in-Forever
op_length-returns-in-Forever t c =
    let whole : op_length (op_of c.args.op.now) ≡ code_length c.in-Forever.body + 1 =
    ⊎_elim (λ e. ap (λ o. op_length (op_of o)) e) (λ e. ap (λ o. op_length (op_of o)) e) c.in-Forever.is in
    IfOk-weaker c.behind-in-Forever.result _ _ (λ n is. omega (arith, is, whole)) (c.behind-in-Forever.ensures _ c.code_length.ensures)

pub op_length-returns-in-Decide : goal.op_length-returns-in-Decide
op_length-returns-in-Decide t c =
    let whole : op_length (op_of c.args.op.now) ≡ nodes_length (nodes_of c.in-Decide.nodes.items) + 9 =
    ap (λ o. op_length (op_of o)) c.in-Decide.is in
    let nodes = ap (λ ns. nodes_length (nodes_of ns)) c.deref.ensures.value in
    IfOk-weaker c.behind.result _ _ (λ n is. omega (arith, is, nodes, whole)) (c.behind.ensures _ c.nodes_length.ensures)
