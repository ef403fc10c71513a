use Rattle.std.proofs.Common.{ap, ◌∙◌}
use Rattle.ada_tree.specs.View.{object_of, scalar_range_of}
use Rattle.kernel_ir.specs.Sequence.{joined}
use Rattle.statement_code.specs.Statements.{keep_on}
use Rattle.statement_code.specs.Values.{one, within}
use Rattle.lower.specs.Context.{names_for, home_for}
use Rattle.lower.specs.Pieces.{expr_for}
use Rattle.lower.proofs.Pieces.{in_words, three_then}
use Rattle.lower.proofs.sets.put_kept.Goals as goal

pub returns : goal.returns
returns c =
    let k = c.args.slot in
    three_then c.push_simple-2.result c.args.code.now c.put_value.new.code c.push_simple.new.self c.push_simple-2.new.self
    (expr_for c.args.context.now k c.args.kept.expr.now) (one (within k ((names_for c.args.context.now).bounds (scalar_range_of c.args.kept.range)))) (one (keep_on k (home_for c.args.context.now (object_of c.args.object))))
    c.in_ok-put_value.ensures
    (c.in_ok-push_simple.ensures.ok ∙ ap (joined c.put_value.new.code) (ap one c.within.ensures ∙ ap (λ b. one (within k b)) c.bounds.ensures))
    (in_words c.push_simple-2.result c.push_simple.new.self c.push_simple-2.new.self _ _ (ap one c.keep.ensures ∙ ap (λ h. one (keep_on k h)) c.home.ensures) c.push_simple-2.ensures.ok)
