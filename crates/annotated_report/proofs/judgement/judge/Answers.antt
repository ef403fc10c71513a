use Rattle.std.proofs.Common.{arith}
use Rattle.std.proofs.lemmas.Grind.{common_steps}
use Rattle.std.proofs.Common.{◌<◌, ◌++◌, ◌∙◌, ap, sym, length, subst}
use Rattle.annotated_report.specs.Findings.{unstarted}
use Rattle.annotated_report.specs.Marked.{marked}
use Rattle.annotated_report.specs.Verdicts.{is_started}
use Rattle.annotated_report.proofs.Judging.{findings_are, count_is}
use Rattle.annotated_report.proofs.Same.{AgreeBelow}
use Rattle.annotated_report.proofs.judgement.judge.Goals as goal

pub returns-clause-findings : goal.returns-clause-findings
returns-clause-findings c =
    let marks = c.as_slice-marks.result.now in
    let entries = c.as_slice-entries.result.now in
    let agree : AgreeBelow (length c.args.obligations.now.statements) (marked marks) (is_started c.args.events.now) =
    λ n low. ap (λ l. marked l n) c.as_slice-marks.ensures.value ∙ c.in_ok-marks.ensures.marks n (subst (λ l. n < length l) (sym c.as_slice-entries.ensures) low) in
    findings_are c.args.level c.args.events.now marks entries c.args.obligations.now.statements _ c.args.obligations.now.decisions _ _ _
    c.as_slice-entries.ensures c.as_slice-decisions.ensures c.requires.statements agree
    (c.in_ok-statements.ensures.findings ∙ ap (λ l. l ++ unstarted (marked marks) entries) c.new.ensures.items) c.in_ok-decisions.ensures.findings c.in_ok-sort.ensures

pub returns-clause-statements : goal.returns-clause-statements
returns-clause-statements c =
    let marks = c.as_slice-marks.result.now in
    let agree : AgreeBelow (length c.args.obligations.now.statements) (marked marks) (is_started c.args.events.now) =
    λ n low. ap (λ l. marked l n) c.as_slice-marks.ensures.value ∙ c.in_ok-marks.ensures.marks n (subst (λ l. n < length l) (sym c.as_slice-entries.ensures) low) in
    count_is c.args.events.now marks c.as_slice-entries.result.now c.args.obligations.now.statements _ c.as_slice-entries.ensures agree c.in_ok-statements.ensures.covered

pub judge_asked-requires : goal.judge_asked-requires
judge_asked-requires c = grind (arith, common_steps)

pub returns-clause-pairs : goal.returns-clause-pairs
returns-clause-pairs c = grind (arith, common_steps)

pub returns-clause-decisions : goal.returns-clause-decisions
returns-clause-decisions c = grind (arith, common_steps)
