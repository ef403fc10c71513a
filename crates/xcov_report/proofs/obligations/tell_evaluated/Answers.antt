use Rattle.std.proofs.Common.{◌≡◌, ◌++◌, List, true, sym, ap, ◌∙◌, [], length}
use Rattle.std.proofs.lemmas.Bool.{cond-true}
use Rattle.std.proofs.lemmas.Result.{on_ok_weaker}
use Rattle.annotated_report.specs.Findings.{asks_outcomes}
use Rattle.annotated_report.specs.Marked.{collected}
use Rattle.annotated_report.specs.Verdicts.{vectors_of}
use Rattle.annotated_report.proofs.Same.{AgreeBelow}
use Rattle.xcov_report.specs.declared.told.Stretch.{Stretch}
use Rattle.xcov_report.specs.Obliged.{decisions_stretches}
use Rattle.xcov_report.proofs.Telling.{same_decisions}
use Rattle.xcov_report.proofs.obligations.tell_evaluated.Goals as goal

pub returns : goal.returns
returns c =
    let level = c.args.level in
    let vectors = vectors_of c.args.events.now in
    let all = decisions_stretches level vectors c.args.decisions.now in
    let agree : AgreeBelow (length c.args.decisions.now) (collected c.as_slice.result.now) vectors =
    λ d low. ap (λ l. collected l d) c.as_slice.ensures.value ∙ c.in_ok-evaluations.ensures.vectors d low in
    let asks : asks_outcomes level ≡ true = sym c.asks_outcomes.ensures ∙ c.if-not-asks_outcomes.false in
    on_ok_weaker c.tell_decisions.result
    (λ is. is ∙ ap (λ (l : List Stretch). c.args.stretches.now.items ++ l)
    (same_decisions level (collected c.as_slice.result.now) vectors c.args.decisions.now agree ∙ sym (cond-true (asks_outcomes level) all [] asks)))
    c.tell_decisions.ensures
