use Rattle.word_limits.proofs.RowLaws.{entries_of, taken_there}
use Rattle.word_limits.proofs.rows.row_words.Goals as goal

pub returns-in-Instance : goal.returns-in-Instance
returns-in-Instance c is t row =
    taken_there is t c.args.scope c.in-Instance.instance c.entry_in.result c.in-Instance.is
    (c.entry_in.ensures is t (entries_of is t c.args.row.now c.in-ByInstance.entries c.as_slice.result.now c.in-ByInstance.is c.as_slice.ensures row))
