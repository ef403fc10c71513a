use Rattle.std.proofs.Common.{◌∙◌, refl}
use Rattle.ada_lexer.proofs.Tables.{spelled_in-reserved_words}
use Rattle.ada_lexer.proofs.word.reserved_word.Goals as goal

pub returns : goal.returns
returns c = c.spelled.ensures ∙ spelled_in-reserved_words _ c.args.word.now refl
