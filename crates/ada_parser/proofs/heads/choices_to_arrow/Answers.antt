use Rattle.expression_parser.specs.declared.symbol.Symbol.TheVariants as symbol
use Rattle.ada_parser.specs.StatementReading as read
use Rattle.declaration_parser.proofs.Closings.{within_below, closed_below}
use Rattle.ada_parser.proofs.BeforeWords.{before_shows}
use Rattle.ada_parser.proofs.heads.choices_to_arrow.Goals as goal

pub returns-clause-reads : goal.returns-clause-reads
returns-clause-reads c = before_shows (λ v. v.items) (read.choices_by c.args.parser.extent) symbol.Arrow c.args.tokens.now c.choices.result c.closed_by.result c.choices.ensures.reads (within_below c.args.tokens.now c.choices.result c.choices.ensures.shorter) c.closed_by.ensures

pub returns-clause-shorter : goal.returns-clause-shorter
returns-clause-shorter c = closed_below symbol.Arrow c.args.tokens.now c.choices.result c.closed_by.result (within_below c.args.tokens.now c.choices.result c.choices.ensures.shorter) c.closed_by.ensures
