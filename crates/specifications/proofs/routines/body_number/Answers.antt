use Rattle.std.proofs.Common.{◌∙◌}
use Rattle.std.proofs.lemmas.Result.{IfOk-weaker}
use Rattle.specifications.proofs.RoutineLaws.{body_is}
use Rattle.specifications.proofs.routines.body_number.Goals as goal

pub returns : goal.returns
returns c =
    IfOk-weaker c.body_number.result _ _
    (λ n h env x e. body_is c.args.context.now.library.now c.args.context.now.unit_name.now env c.args.name.now n x e _ (c.as_slice.ensures.value ∙ c.in_ok-name.ensures) h) c.body_number.ensures
