use Rattle.std.proofs.Common.{◌∙◌, ap, length}
use Rattle.std.proofs.lemmas.Result.{IfOk-weaker}
use Rattle.annotated_report.specs.Marked.{marked}
use Rattle.annotated_report.specs.Verdicts.{is_started}
use Rattle.annotated_report.proofs.Same.{AgreeBelow}
use Rattle.json_report.proofs.Agreeing.{same_statements}
use Rattle.json_report.proofs.whole.started_values.Goals as goal

pub returns : goal.returns
returns c =
    let agree : AgreeBelow (length c.args.entries.now) (marked c.as_slice.result.now) (is_started c.args.events.now) =
    λ n low. ap (λ l. marked l n) c.as_slice.ensures.value ∙ c.in_ok-marks.ensures.marks n low in
    IfOk-weaker c.statement_values.result _ _
    (λ values is. is ∙ same_statements (marked c.as_slice.result.now) (is_started c.args.events.now) c.args.entries.now agree)
    c.statement_values.ensures
