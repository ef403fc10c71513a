use Rattle.word_limits.proofs.RowLaws.{composite_taken}
use Rattle.word_limits.proofs.rows.subtype_words.Goals as goal

pub returns-in-Composite : goal.returns-in-Composite
returns-in-Composite c is ts rows =
    composite_taken is c.args.scope c.owned.result c.args.subtype c.in-Composite.owner c.in-Composite.number ts c.numbered_words.result
    c.in-Composite.is c.owned.ensures (c.numbered_words.ensures is ts rows)
