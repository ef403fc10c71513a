use Rattle.std.proofs.Common.{sym, ap, ◌∙◌}
use Rattle.kernel_ir.specs.Sequence.{joined}
use Rattle.kernel_ir.proofs.Joining.{joined_nothing}
use Rattle.statement_code.specs.Values.{one}
use Rattle.lower.specs.Settings.{setting_of}
use Rattle.lower.proofs.Pieces.{whenever}
use Rattle.lower.proofs.Settings.{next_inner, next_last}
use Rattle.lower.proofs.sets.put_next.Goals as goal

pub returns-then-goes_in : goal.returns-then-goes_in
returns-then-goes_in c = λ s v is.
    sym (joined_nothing c.args.code.now)
    ∙ ap (joined c.args.code.now) (sym (next_inner c.args.address s c.args.inner.now (setting_of v) (sym c.goes_in.ensures ∙ c.if-goes_in.true)))

pub returns : goal.returns
returns c =
    whenever c.push_simple.result c.push_simple.ensures.ok (λ put s v is.
    put ∙ ap (λ x. joined c.args.code.now (one x)) c.advanced.ensures
    ∙ ap (joined c.args.code.now) (next_last c.args.address c.args.words s c.args.inner.now v (sym c.goes_in.ensures ∙ c.if-goes_in.false) is))
