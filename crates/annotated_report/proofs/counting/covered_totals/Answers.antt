use Rattle.std.proofs.Common.{List, ℕ, ◌++◌, ◌∙◌, ap, length}
use Rattle.annotated_report.specs.Totals.{counted_totals}
use Rattle.annotated_report.proofs.Totals.{counts_are}
use Rattle.annotated_report.proofs.counting.covered_totals.Goals as goal

pub returns : goal.returns
returns c =
    let level = c.args.level in
    let due = c.args.obligations.now in
    let judged = c.in_ok-judged.judged in
    let said = c.in_ok-judged.ensures in
    c.in_ok-put_counted.ensures
    ∙ ap (λ (old : List ℕ). old ++ counted_totals level due judged.statements judged.decisions (length judged.found.pairs.items)) c.new-text.ensures.items
    ∙ counts_are level due c.args.events.now judged.statements judged.decisions judged.found.pairs.items said.statements said.decisions said.pairs
