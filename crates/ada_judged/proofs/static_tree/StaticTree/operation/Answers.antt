use Rattle.std.proofs.Common.{ap, ◌∙◌}
use Rattle.ada_meaning.specs.Types.{static_operation}
use Rattle.ada_tree.specs.View.{operator_of}
use Rattle.ada_judged.specs.StaticView.{with_operands}
use Rattle.ada_judged.proofs.Chains.{operands_push}
use Rattle.ada_judged.proofs.static_tree.StaticTree.operation.Goals as goal

pub returns : goal.returns
returns c =
    let first = c.in_ok-first.first.value in
    ap (λ os. with_operands first os) c.in_ok-push.ensures.items
    ∙ (operands_push first c.in_ok-first.others.items (record { operator = c.args.operator; operand = c.args.right })
    ∙ ap (λ e. static_operation (operator_of c.args.operator) e c.args.right) c.in_ok-first.ensures)
