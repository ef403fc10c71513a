use Rattle.std.proofs.Common.{◌≡◌, sym, ◌∙◌, rules}
use Rattle.word_limits.proofs.RowLaws.{entry_found}
use Rattle.word_limits.proofs.rows.entry_in.Goals as goal

pub returns : goal.returns
returns c is t all =
    let same : c.in_ok-entry.entry.instance ≡ c.args.instance = search rules in
    entry_found is t c.args.entries.now c.partition_point-index.result c.in_ok-entry.entry c.args.instance all
    (sym c.entry_at.ensures ∙ c.in_ok-entry.was) same
