use Rattle.std.proofs.Common.{slice_get, sym, ap, ◌∙◌}
use Rattle.std.specs.Prelude.{unwrap_or}
use Rattle.std.specs.Option.{option_copied}
use Rattle.ada_tree.specs.View.{numbered}
use Rattle.word_limits.proofs.RowLaws.{row_found}
use Rattle.word_limits.proofs.rows.numbered_words.Goals as goal

pub returns : goal.returns
returns c is ts rows =
    c.row_words.ensures is (unwrap_or (slice_get ts c.args.number) (numbered c.args.number))
    (row_found is ts c.args.rows.now c.args.number c.in_ok-row.row.now rows (sym c.row_at.ensures ∙ ap option_copied c.in_ok-row.was))
