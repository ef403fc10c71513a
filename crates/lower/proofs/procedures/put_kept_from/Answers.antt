use Rattle.std.proofs.Common.{ap, ◌∙◌}
use Rattle.ada_tree.specs.View.{object_of, scalar_range_of}
use Rattle.kernel_ir.specs.Sequence.{joined}
use Rattle.statement_code.specs.Statements.{keep_on}
use Rattle.statement_code.specs.Values.{one, within}
use Rattle.lower.specs.Context.{names_for, home_for}
use Rattle.lower.proofs.Building.{then_put}
use Rattle.lower.proofs.Pieces.{in_words}
use Rattle.lower.proofs.procedures.put_kept_from.Goals as goal

pub returns : goal.returns
returns c =
    then_put c.push_simple-2.result c.args.code.now c.push_simple.new.self c.push_simple-2.new.self
    (one (within c.args.from ((names_for c.args.context.now).bounds (scalar_range_of c.args.range)))) (one (keep_on c.args.from (home_for c.args.context.now (object_of c.args.object))))
    (c.in_ok-push_simple.ensures.ok ∙ ap (joined c.args.code.now) (ap one c.within.ensures ∙ ap (λ b. one (within c.args.from b)) c.bounds.ensures))
    (in_words c.push_simple-2.result c.push_simple.new.self c.push_simple-2.new.self _ _ (ap one c.keep.ensures ∙ ap (λ h. one (keep_on c.args.from h)) c.home.ensures) c.push_simple-2.ensures.ok)
