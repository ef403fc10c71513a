use Rattle.std.proofs.Common.{ap, ◌∙◌}
use Rattle.ada_tree.specs.View.{scalar_range_of}
use Rattle.kernel_ir.specs.declared.simple.Simple.TheVariants as op
use Rattle.kernel_ir.specs.Sequence.{joined}
use Rattle.kernel_ir.specs.Tree.{returns as return}
use Rattle.statement_code.specs.Values.{one, single, within}
use Rattle.lower.specs.Context.{names_for}
use Rattle.lower.specs.Pieces.{expr_for}
use Rattle.lower.proofs.Building.{then_put}
use Rattle.lower.proofs.Pieces.{three_then}
use Rattle.lower.proofs.simple.put_result.Goals as goal

pub returns : goal.returns
returns c =
    let k = c.args.slot in
    three_then c.push.result c.args.code.now c.put_value.new.code c.push_simple.new.self c.push.new.self
    (expr_for c.args.context.now k c.args.expr.now) (one (within k ((names_for c.args.context.now).bounds (scalar_range_of c.args.range)))) (joined (one (op.Move 0 k)) (single return))
    c.in_ok-put_value.ensures
    (c.in_ok-push_simple.ensures.ok ∙ ap (joined c.put_value.new.code) (ap one c.within.ensures ∙ ap (λ b. one (within k b)) c.bounds.ensures))
    (then_put c.push.result c.push_simple.new.self c.push_simple-2.new.self c.push.new.self (one (op.Move 0 k)) (single return)
    c.in_ok-push_simple-2.ensures.ok c.push.ensures.ok)
