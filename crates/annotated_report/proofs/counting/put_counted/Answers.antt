use Rattle.std.proofs.Common.{◌++◌, ◌∙◌, List, ap, codes, length, [], if◌then◌else◌}
use Rattle.std.proofs.lemmas.Result.{on_ok_weaker}
use Rattle.annotated_report.specs.declared.finding.PairLine.{PairLine}
use Rattle.annotated_report.specs.Findings.{asks_outcomes}
use Rattle.annotated_report.specs.Report.{total_text}
use Rattle.annotated_report.specs.Shown.{condition_count}
use Rattle.annotated_report.specs.Totals.{conditions_total}
use Rattle.annotated_report.proofs.Appending.{in_three}
use Rattle.annotated_report.proofs.counting.put_counted.Goals as goal

pub returns : goal.returns
returns c =
    let level = c.args.level in
    let judged = c.args.judged.now in
    let old = c.args.text.now.items in
    let one = c.put_total.new.text.items in
    let two = c.put_decisions.new.text.items in
    on_ok_weaker c.put_condition_total.result
    (λ last. in_three old one two c.put_condition_total.new.text.items _ _ _
    (c.in_ok-put_total.ensures ∙ ap (λ n. old ++ total_text (codes "statements: ") judged.statements n) c.len-statements.ensures)
    (c.in_ok-put_decisions.ensures ∙ ap (λ n. one ++ (if asks_outcomes level then total_text (codes "decisions: ") judged.decisions n else [])) c.len-decisions.ensures)
    (last ∙ ap (λ n. two ++ conditions_total level (length c.as_slice-pairs.result.now) n)
    (c.condition_count-conditions.ensures ∙ ap condition_count c.as_slice.ensures)
    ∙ ap (λ (l : List PairLine). two ++ conditions_total level (length l) (condition_count c.args.obligations.now.decisions)) c.as_slice-pairs.ensures.value))
    c.put_condition_total.ensures
