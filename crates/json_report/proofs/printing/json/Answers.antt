use Rattle.std.proofs.Common.{◌++◌, ◌∷◌, [], ◌∙◌, ap, map}
use Rattle.serde_json.specs.Written.{has_float, compact_text}
use Rattle.json_report.proofs.Floatless.{report_free}
use Rattle.json_report.proofs.printing.json.Goals as goal

pub returns : goal.returns
returns c =
    let value_is = c.in_ok-value.ensures in
    let free = report_free c.args.level c.args.obligations.now c.args.traces c.args.events.now (map (λ file. file.name) c.args.files.now) in
    let text = c.in_ok-text.ensures.text (ap has_float value_is ∙ free) in
    c.in_ok-push.ensures.items ∙ ap (λ xs. xs ++ 10 ∷ []) (text ∙ ap compact_text value_is)
