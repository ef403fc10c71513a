use Rattle.std.proofs.Common.{ap, ◌∙◌}
use Rattle.ada_tree.specs.View.{scalar_range_of}
use Rattle.kernel_ir.specs.declared.simple.Simple.TheVariants as op
use Rattle.kernel_ir.specs.Sequence.{joined}
use Rattle.statement_code.specs.Values.{one, within}
use Rattle.lower.specs.Context.{names_for}
use Rattle.lower.proofs.Building.{then_put}
use Rattle.lower.proofs.procedures.put_stored.Goals as goal

pub returns : goal.returns
returns c =
    then_put c.push_simple-2.result c.args.code.now c.push_simple.new.self c.push_simple-2.new.self
    (one (within c.args.from ((names_for c.args.context.now).bounds (scalar_range_of c.args.range)))) (one (op.Store c.args.address c.args.from))
    (c.in_ok-push_simple.ensures.ok ∙ ap (joined c.args.code.now) (ap one c.within.ensures ∙ ap (λ b. one (within c.args.from b)) c.bounds.ensures))
    c.push_simple-2.ensures.ok
