use Rattle.std.proofs.Common.{subst}
use Rattle.std.proofs.lemmas.Result.{IfOk-weaker}
use Rattle.ada_demands.specs.SpanViews.{listed}
use Rattle.ada_demands.specs.Unmet.{IsFirstUnmet}
use Rattle.walked_program.proofs.CheckedLaws.{unmet_there}
use Rattle.walked_program.proofs.behind.unmet.Goals as goal

pub returns : goal.returns
returns c =
    let w = c.args.whole.now in
    IfOk-weaker c.first_unmet.result _ _
    (λ o h. unmet_there w o (subst (λ ds. IsFirstUnmet w.instances (listed w.walk.spans) ds o) c.as_slice-demands.ensures.value h))
    c.first_unmet.ensures
