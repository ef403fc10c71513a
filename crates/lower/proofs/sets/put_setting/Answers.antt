use Rattle.std.proofs.Common.{ap, ◌∙◌}
use Rattle.ada_resolved.specs.Sizes.{words}
use Rattle.ada_tree.specs.View.{object_of, parts_of, scalar_range_of}
use Rattle.kernel_ir.specs.declared.simple.Simple.TheVariants as op
use Rattle.kernel_ir.specs.Sequence.{joined}
use Rattle.statement_code.specs.Values.{one, within}
use Rattle.lower.specs.Context.{names_for, shape_named, text}
use Rattle.lower.specs.Pieces.{expr_for, located_for}
use Rattle.lower.proofs.Building.{then_put}
use Rattle.lower.proofs.Pieces.{in_words, three_then}
use Rattle.lower.proofs.sets.put_setting.Goals as goal

pub returns-in_ok-push_simple-in-Scalar : goal.returns-in_ok-push_simple-in-Scalar
returns-in_ok-push_simple-in-Scalar c =
    let j = c.args.free in
    rw (c.in-Scalar.is)
    (three_then c.push_simple-in-Scalar.result c.args.code.now c.put_value.new.code c.push_simple.new.self c.push_simple-in-Scalar.new.self
    (expr_for c.args.context.now j c.in-Scalar.expr.now) (one (within j ((names_for c.args.context.now).bounds (scalar_range_of c.in-Scalar.range)))) (one (op.Store c.args.address j))
    c.in_ok-put_value-in-Scalar.ensures
    (c.in_ok-push_simple-in-Scalar.ensures.ok ∙ ap (joined c.put_value.new.code) (ap one c.within.ensures ∙ ap (λ b. one (within j b)) c.bounds.ensures))
    c.push_simple-in-Scalar.ensures.ok)

pub returns-in_ok-put_located-in-Composite : goal.returns-in_ok-put_located-in-Composite
returns-in_ok-put_located-in-Composite c =
    let j = c.args.free in
    rw (c.in-Composite.is)
    (then_put c.push_simple-in-Composite.result c.args.code.now c.put_located.new.code c.push_simple-in-Composite.new.self
    (located_for c.args.context.now j (object_of c.in-Composite.object) (parts_of c.in-Composite.selectors.now)) (one (op.Copy c.args.address j (words (shape_named (text c.args.context.now) c.args.of))))
    c.in_ok-put_located-in-Composite.ensures
    (in_words c.push_simple-in-Composite.result c.put_located.new.code c.push_simple-in-Composite.new.self _ _ (ap (λ n. one (op.Copy c.args.address j n)) c.words.ensures.words)
    c.push_simple-in-Composite.ensures.ok))
