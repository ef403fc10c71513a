use Rattle.std.proofs.Common.{ap, arith}
use Rattle.std.proofs.lemmas.Result.{on_ok_weaker}
use Rattle.kernel_ir.specs.Tree.{op_size}
use Rattle.kernel_ir.specs.TreeView.{op_of, nodes_of}
use Rattle.kernel_ir.proofs.SizeLaws.{op_within}
use Rattle.kernel_code.specs.Set.{setting_of}
use Rattle.codegen_rv32.specs.Set.{targets_of}
use Rattle.codegen_rv32.proofs.Behind.{choose_put, repeat_put, catch_put, decide_put, node_put, node_of_slice, rest_smaller}
use Rattle.std.proofs.lemmas.Grind.{common_steps}
use Rattle.codegen_rv32.proofs.structure.+structure.Goals as goal

pub put_operations-put_operation-requires : goal.put_operations-put_operation-requires
put_operations-put_operation-requires t c = (
  omega (
    arith,
    c.decreases,
    op_within c.args.ops.now c.loop-op.op-index c.op-item.result (omega arith),
    ap
        (λ x. op_size (op_of x)) c.op-item.is,
  ),
  tt,
)

pub put_choose-returns : goal.put_choose-returns
put_choose-returns t c =
    on_ok_weaker c.put_code-2.result
    (choose_put (setting_of c.args.frame.now)
    (targets_of c.args.targets) c.args.place c.args.slot c.args.if_true.now c.args.if_false.now _ _ _ _ _ _ _ _
    c.in_ok-at.ensures.inside c.in_ok-at.ensures.otherwise c.in_ok-at.ensures.past
    c.in_ok-put_test.ensures c.in_ok-put_code.ensures c.in_ok-jump.ensures)
    c.put_code-2.ensures

pub put_repeat-returns : goal.put_repeat-returns
put_repeat-returns t c =
    on_ok_weaker c.jump.result
    (repeat_put (setting_of c.args.frame.now) (targets_of c.args.targets) c.args.place c.args.body.now _ _ _ _
    c.in_ok-past.ensures c.in_ok-put_code.ensures)
    c.jump.ensures

pub put_catch-returns : goal.put_catch-returns
put_catch-returns t c =
    on_ok_weaker c.put_code-2.result
    (catch_put (setting_of c.args.frame.now)
    (targets_of c.args.targets) c.args.place c.args.slot c.args.body.now c.args.handler.now _ _ _ _ _ _ _
    c.in_ok-at.ensures.caught c.in_ok-at.ensures.handled c.in_ok-at.ensures.past
    c.in_ok-put_code.ensures c.in_ok-enter_handler.ensures)
    c.put_code-2.ensures

pub put_decide-returns : goal.put_decide-returns
put_decide-returns t c =
    on_ok_weaker c.set_outcome.result
    (decide_put (setting_of c.args.frame.now) (targets_of c.args.targets) c.args.place c.args.slot c.args.decision c.args.instance
    (nodes_of c.args.nodes.now) _ _ _ _ _ _
    c.in_ok-at.ensures.true_at c.in_ok-at.ensures.false_at c.in_ok-at.ensures.past c.in_ok-put_nodes.ensures)
    c.set_outcome.ensures

pub put_nodes-put_nodes-requires : goal.put_nodes-put_nodes-requires
put_nodes-put_nodes-requires t c =
    (omega (arith, c.decreases, rest_smaller c.args.nodes.now c.in-Some.node.now c.in-Some.following.now c.in-Some.ensures.cases.0), tt)

pub put_nodes-returns : goal.put_nodes-returns
put_nodes-returns t c =
    let v = c.args.evaluation in
    on_ok_weaker c.put_nodes.result
    (λ h. node_of_slice (setting_of c.args.frame.now)
    (targets_of c.args.targets) v.true_at v.false_at v.decision v.instance c.args.number c.args.place
    c.args.nodes.now c.in-Some.node.now c.in-Some.following.now _ _ c.in-Some.ensures.cases.0
    (node_put (setting_of c.args.frame.now) (targets_of c.args.targets) v.true_at v.false_at v.decision v.instance c.args.number
    c.in_ok-after.after c.args.place c.in-Some.node.now.slot
    c.in-Some.node.now.operand c.in-Some.node.now.on_true c.in-Some.node.now.on_false
    (nodes_of c.in-Some.following.now) _ _ _ _ _ _ _ _
    c.in_ok-at.ensures.taken c.in_ok-at.ensures.next c.in_ok-after.ensures.number
    c.in_ok-at.ensures.on_true c.in_ok-at.ensures.on_false c.in_ok-put_code.ensures c.in_ok-put_condition.ensures h))
    c.put_nodes.ensures

pub put_operations-loop-op-preserved : goal.put_operations-loop-op-preserved
put_operations-loop-op-preserved t c =
    let at = c.in_ok-at.ensures _ c.op_length.ensures in
    grind (arith, common_steps, at)
