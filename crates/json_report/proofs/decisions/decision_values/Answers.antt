use Rattle.std.proofs.Common.{◌∙◌, ap, length, arith}
use Rattle.std.proofs.lemmas.Grind.{common_steps}
use Rattle.annotated_report.specs.Marked.{collected}
use Rattle.annotated_report.specs.Verdicts.{vectors_of}
use Rattle.annotated_report.proofs.Same.{AgreeBelow}
use Rattle.json_report.proofs.Agreeing.{same_decisions}
use Rattle.json_report.proofs.decisions.decision_values.Goals as goal

pub returns-in_ok-evaluations : goal.returns-in_ok-evaluations
returns-in_ok-evaluations c =
    let agree : AgreeBelow (length c.args.entries.now) (collected c.as_slice.result.now) (vectors_of c.args.events.now) =
    λ d low. ap (λ l. collected l d) c.as_slice.ensures.value ∙ c.in_ok-evaluations.ensures.vectors d low in
    let same = same_decisions c.args.level (collected c.as_slice.result.now) (vectors_of c.args.events.now) c.args.entries.now agree in
    grind (arith, common_steps, same)
