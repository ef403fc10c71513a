use Rattle.std.proofs.Common.{◌++◌, ◌∙◌, ap, codes, map, [], if◌then◌else◌}
use Rattle.std.proofs.lemmas.Result.{on_ok_weaker}
use Rattle.annotated_report.specs.Findings.{asks_outcomes, asks_pairs}
use Rattle.annotated_report.specs.Report.{total_text, pairs_text}
use Rattle.annotated_report.specs.Shown.{condition_count}
use Rattle.annotated_report.proofs.Appending.{in_three}
use Rattle.annotated_report.proofs.printing.put_totals.Goals as goal

pub returns : goal.returns
returns c =
    let level = c.args.level in
    let names = map (λ file. file.name) c.args.files.now in
    let judged = c.args.judged.now in
    let old = c.args.text.now.items in
    let one = c.put_total.new.text.items in
    let two = c.put_decisions.new.text.items in
    on_ok_weaker c.put_asked_conditions.result
    (λ last. in_three old one two c.put_asked_conditions.new.text.items _ _ _
    (c.in_ok-put_total.ensures ∙ ap (λ n. old ++ total_text (codes "statements: ") judged.statements n) c.len-statements.ensures)
    (c.in_ok-put_decisions.ensures ∙ ap (λ n. one ++ (if asks_outcomes level then total_text (codes "decisions: ") judged.decisions n else [])) c.len.ensures)
    (last ∙ ap (λ n. two ++ (if asks_pairs level then pairs_text names n c.as_slice-2.result.now else []))
    (c.condition_count-conditions.ensures ∙ ap condition_count c.as_slice.ensures)
    ∙ ap (λ l. two ++ (if asks_pairs level then pairs_text names (condition_count c.args.obligations.now.decisions) l else [])) c.as_slice-2.ensures.value))
    c.put_asked_conditions.ensures
