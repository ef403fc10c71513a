use Rattle.ada_syntax.specs.declared.declaration.Pragma.TheVariants.{ExemptOff}
use Rattle.expression_parser.specs.declared.symbol.Symbol.TheVariants as symbol
use Rattle.declaration_parser.proofs.Closings.{before_words, words_below}
use Rattle.declaration_parser.proofs.pragmas.exempt_off.Goals as goal

pub returns-clause-reads : goal.returns-clause-reads
returns-clause-reads c = before_words ExemptOff c.args.tokens symbol.RightParenthesis symbol.Semicolon c.closed_by-exemption.result c.closed_by.result c.closed_by-exemption.ensures c.closed_by.ensures

pub returns-clause-shorter : goal.returns-clause-shorter
returns-clause-shorter c = words_below ExemptOff c.args.tokens symbol.RightParenthesis symbol.Semicolon c.closed_by-exemption.result c.closed_by.result c.closed_by-exemption.ensures c.closed_by.ensures
