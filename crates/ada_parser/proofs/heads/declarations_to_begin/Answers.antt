use Rattle.expression_parser.specs.declared.symbol.Symbol.TheVariants as symbol
use Rattle.declaration_parser.specs.DeclarationReading.{declarations_by}
use Rattle.declaration_parser.proofs.Closings.{closed_below}
use Rattle.ada_parser.proofs.BeforeWords.{before_shows}
use Rattle.ada_parser.proofs.heads.declarations_to_begin.Goals as goal

pub returns-clause-reads : goal.returns-clause-reads
returns-clause-reads c = before_shows (λ v. v.items) (declarations_by c.args.parser.extent) symbol.Begin c.args.tokens.now c.local_declarations.result c.closed_by.result c.local_declarations.ensures.reads c.local_declarations.ensures.no_longer c.closed_by.ensures

pub returns-clause-shorter : goal.returns-clause-shorter
returns-clause-shorter c = closed_below symbol.Begin c.args.tokens.now c.local_declarations.result c.closed_by.result c.local_declarations.ensures.no_longer c.closed_by.ensures
