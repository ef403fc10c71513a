use Rattle.std.proofs.Common.{◌++◌, ◌∙◌, ap, length, arith}
use Rattle.std.proofs.lemmas.Result.{on_ok_weaker, IfOk-weaker}
use Rattle.annotated_report.specs.Marked.{marked, collected}
use Rattle.annotated_report.specs.Verdicts.{vectors_of}
use Rattle.annotated_report.proofs.Same.{AgreeBelow, same_unsatisfied, same_paired, same_covered}
use Rattle.std.proofs.lemmas.Grind.{common_steps}
use Rattle.annotated_report.proofs.judgement.judge_evaluated.Goals as goal

pub returns-clause-findings : goal.returns-clause-findings
returns-clause-findings c =
    let vectors = vectors_of c.args.events.now in
    let agree : AgreeBelow (length c.args.decisions.now) (collected c.as_slice.result.now) vectors =
    λ d low. ap (λ l. collected l d) c.as_slice.ensures.value ∙ c.in_ok-evaluations.ensures.vectors d low in
    on_ok_weaker c.judge_decisions.result
    (λ is. is ∙ ap (λ l. c.args.found.now.findings.items ++ l)
    (same_unsatisfied c.args.level (marked c.args.started.now) (collected c.as_slice.result.now) vectors c.args.decisions.now agree))
    c.judge_decisions.ensures.findings

pub returns-clause-pairs : goal.returns-clause-pairs
returns-clause-pairs c =
    let vectors = vectors_of c.args.events.now in
    let agree : AgreeBelow (length c.args.decisions.now) (collected c.as_slice.result.now) vectors =
    λ d low. ap (λ l. collected l d) c.as_slice.ensures.value ∙ c.in_ok-evaluations.ensures.vectors d low in
    on_ok_weaker c.judge_decisions.result
    (λ is. is ∙ ap (λ l. c.args.found.now.pairs.items ++ l)
    (same_paired c.args.level (collected c.as_slice.result.now) vectors c.args.decisions.now agree))
    c.judge_decisions.ensures.pairs

pub returns-clause-covered : goal.returns-clause-covered
returns-clause-covered c =
    let vectors = vectors_of c.args.events.now in
    let agree : AgreeBelow (length c.args.decisions.now) (collected c.as_slice.result.now) vectors =
    λ d low. ap (λ l. collected l d) c.as_slice.ensures.value ∙ c.in_ok-evaluations.ensures.vectors d low in
    IfOk-weaker c.judge_decisions.result _ _
    (λ covered is. is ∙ same_covered (collected c.as_slice.result.now) vectors c.args.decisions.now agree)
    c.judge_decisions.ensures.covered

pub judge_decisions-requires-clause-evaluated : goal.judge_decisions-requires-clause-evaluated
judge_decisions-requires-clause-evaluated c = grind (arith, common_steps)
