use Rattle.std.proofs.Common.{◌<◌, ◌∙◌, ap, sym, length, subst}
use Rattle.annotated_report.specs.Marked.{marked}
use Rattle.annotated_report.specs.Verdicts.{is_started}
use Rattle.annotated_report.proofs.Same.{AgreeBelow}
use Rattle.xcov_report.proofs.Telling.{all_told}
use Rattle.xcov_report.proofs.listing.all_stretches.Goals as goal

pub returns : goal.returns
returns c =
    let due = c.args.obligations.now in
    let events = c.args.events.now in
    let marks = c.as_slice.result.now in
    let agree : AgreeBelow (length due.statements) (marked marks) (is_started events) =
    λ n low. ap (λ l. marked l n) c.as_slice.ensures.value
    ∙ c.in_ok-marks.ensures.marks n (subst (λ l. n < length l) (sym c.as_slice-statements.ensures) low) in
    all_told c.args.level due events marks c.as_slice-statements.result.now c.as_slice-decisions.result.now _ _ _ _
    c.new-stretches.ensures.items c.as_slice-statements.ensures c.as_slice-decisions.ensures agree
    c.in_ok-tell_statements.ensures c.in_ok-tell_evaluated.ensures c.in_ok-tell_judged_regions.ensures
