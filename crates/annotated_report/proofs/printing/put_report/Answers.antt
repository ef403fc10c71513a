use Rattle.std.proofs.Common.{◌++◌, ◌∙◌, ap, map}
use Rattle.std.proofs.lemmas.Result.{on_ok_weaker}
use Rattle.annotated_report.specs.Report.{violations_text}
use Rattle.annotated_report.proofs.Appending.{in_three}
use Rattle.annotated_report.proofs.printing.put_report.Goals as goal

pub returns : goal.returns
returns c =
    let names = map (λ file. file.name) c.args.files.now in
    let one = c.put_head.new.text.items in
    on_ok_weaker c.put_totals.result
    (λ last. in_three c.args.text.now.items one c.put_findings.new.text.items c.put_totals.new.text.items _ _ _
    c.in_ok-put_head.ensures
    (c.in_ok-put_findings.ensures ∙ ap (λ regions. one ++ violations_text names regions c.as_slice.result.now) (c.of.ensures ∙ c.as_slice-regions.ensures)
    ∙ ap (λ found. one ++ violations_text names c.args.obligations.now.regions found) c.as_slice.ensures.value)
    last)
    c.put_totals.ensures
