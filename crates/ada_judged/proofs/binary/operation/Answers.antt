use Rattle.std.proofs.Common.{ap, ◌∙◌}
use Rattle.ada_meaning.specs.Tree as tree
use Rattle.ada_tree.specs.View.{operator_of, with_operands}
use Rattle.ada_judged.proofs.Chains.{expr_push}
use Rattle.ada_judged.proofs.Tests.{is_then}
use Rattle.ada_judged.proofs.binary.operation.Goals as goal

pub returns : goal.returns
returns c =
    let first = c.opened-first.result.0 in
    let others = c.opened-first.result.1.items in
    let same =
    ap (λ os. with_operands first os) c.in_ok-push.ensures.items
    ∙ (expr_push first others (record { operator = c.args.operator; operand = c.args.right })
    ∙ ap (λ e. tree.operation (operator_of c.args.operator) e c.args.right) c.opened-first.ensures) in
    is_then c.operations.result _ _ same c.operations.ensures
