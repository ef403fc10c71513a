use Rattle.std.proofs.Common.{◌+◌, ap, ◌∙◌}
use Rattle.ada_tree.specs.View.{scalar_range_of}
use Rattle.kernel_ir.specs.declared.simple.Simple.TheVariants as op
use Rattle.kernel_ir.specs.Sequence.{joined}
use Rattle.statement_code.specs.Values.{one}
use Rattle.lower.specs.Context.{names_for}
use Rattle.lower.specs.Pieces.{expr_for}
use Rattle.lower.proofs.Building.{then_put}
use Rattle.lower.proofs.Pieces.{in_words}
use Rattle.lower.proofs.choosing.put_bounds.Goals as goal

pub returns-in_ok-push_simple-in-Subtype : goal.returns-in_ok-push_simple-in-Subtype
returns-in_ok-push_simple-in-Subtype c =
    let k = c.args.slot in
    let r = scalar_range_of c.in-Subtype.range in
    rw c.in-Subtype.is
    (then_put c.push_simple-in-Subtype.result c.args.code.now c.push_simple.new.self c.push_simple-in-Subtype.new.self
    (one (op.Number k ((names_for c.args.context.now).bounds r).low)) (one (op.Number (k + 1) ((names_for c.args.context.now).bounds r).high))
    (c.in_ok-push_simple-in-Subtype.ensures.ok ∙ ap (joined c.args.code.now) (ap one c.first_number.ensures ∙ ap (λ b. one (op.Number k b.low)) c.bounds-bounds.ensures))
    (in_words c.push_simple-in-Subtype.result c.push_simple.new.self c.push_simple-in-Subtype.new.self _ _
    (ap one c.last_number.ensures ∙ (λ s. one (op.Number (c.in_ok-behind.ensures.number s) (c.bounds-bounds.ensures s).high))) c.push_simple-in-Subtype.ensures.ok))

pub returns-in_ok-put_value-in-Bounds : goal.returns-in_ok-put_value-in-Bounds
returns-in_ok-put_value-in-Bounds c =
    let k = c.args.slot in
    rw c.in-Bounds.is
    (then_put c.put_value-in-Bounds.result c.args.code.now c.put_value.new.code c.put_value-in-Bounds.new.code (expr_for c.args.context.now k c.in-Bounds.low) (expr_for c.args.context.now (k + 1) c.in-Bounds.high)
    c.in_ok-put_value-in-Bounds.ensures (rw c.in_ok-behind.ensures.number at c.put_value-in-Bounds.ensures))
