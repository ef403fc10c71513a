use Rattle.std.proofs.Common.{sym}
use Rattle.expression_parser.proofs.OperatorLaws.{word_taken, no_word}
use Rattle.expression_parser.proofs.parser.word.Goals as goal

pub returns-in-Some : goal.returns-in-Some
returns-in-Some c = word_taken c.args.wanted c.args.tokens.now c.in-Some.rest.now (sym c.in-Some.ensures)

pub returns-in-None : goal.returns-in-None
returns-in-None c = no_word c.args.wanted c.args.tokens.now (sym c.in-None.ensures)
