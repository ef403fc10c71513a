use Rattle.std.proofs.Common.{subst}
use Rattle.std.proofs.lemmas.Result.{IfOk-weaker}
use Rattle.word_limits.specs.Excess.{IsFirstExcess}
use Rattle.walked_program.proofs.CheckedLaws.{excess_there}
use Rattle.walked_program.proofs.behind.excess.Goals as goal

pub returns : goal.returns
returns c =
    let w = c.args.whole.now in
    let units = c.args.units.now in
    IfOk-weaker c.first_excess.result _ _
    (λ o h. excess_there w units o c.types.result.now c.in_ok-types.types c.types.ensures c.in_ok-types.ensures.types
    (subst (λ ds. IsFirstExcess ds w.instances w.walk units o) c.as_slice.ensures h))
    c.first_excess.ensures
