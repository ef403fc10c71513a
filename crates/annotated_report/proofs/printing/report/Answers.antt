use Rattle.std.proofs.Common.{◌++◌, ◌∙◌, ap, map}
use Rattle.annotated_report.specs.Findings.{findings}
use Rattle.annotated_report.specs.Report.{head_text, violations_text, judged_totals}
use Rattle.annotated_report.proofs.Totals.{totals_are}
use Rattle.annotated_report.proofs.printing.report.Goals as goal

pub returns : goal.returns
returns c =
    let level = c.args.level in
    let due = c.args.obligations.now in
    let names = map (λ file. file.name) c.args.files.now in
    let judged = c.in_ok-judged.judged in
    let said = c.in_ok-judged.ensures in
    let totals = judged_totals level due names judged.statements judged.decisions judged.found.pairs.items in
    c.in_ok-put_report.ensures
    ∙ ap (λ old. old ++ (head_text level c.args.n ++ (violations_text names due.regions judged.found.findings.items ++ totals))) c.new-text.ensures.items
    ∙ ap (λ found. head_text level c.args.n ++ (violations_text names due.regions found ++ totals)) said.findings
    ∙ ap (λ last. head_text level c.args.n ++ (violations_text names due.regions (findings level due c.args.events.now) ++ last))
    (totals_are level due c.args.events.now names judged.statements judged.decisions judged.found.pairs.items
    said.statements said.decisions said.pairs)
