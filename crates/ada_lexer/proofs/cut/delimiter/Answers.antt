use Rattle.std.proofs.Common.{rules}
use Rattle.ada_lexer.proofs.cut.delimiter.Goals as goal

pub returns-in_err-lexeme : goal.returns-in_err-lexeme
returns-in_err-lexeme c = search rules

pub returns : goal.returns
returns c = search rules
