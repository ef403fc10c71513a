use Rattle.std.proofs.Common.{◌∙◌, refl}
use Rattle.ada_lexer.proofs.Tables.{begun_in-delimiters}
use Rattle.ada_lexer.proofs.Delimiters.{longest_delimiter_within, longest_delimiter_some}
use Rattle.ada_lexer.proofs.cut.longest_delimiter.Goals as goal

pub returns-clause-delimiter : goal.returns-clause-delimiter
returns-clause-delimiter c = c.begun.ensures ∙ begun_in-delimiters _ c.args.text.now refl

pub returns-clause-within : goal.returns-clause-within
returns-clause-within c = longest_delimiter_within c.args.text.now _ (c.begun.ensures ∙ begun_in-delimiters _ c.args.text.now refl)

pub returns-clause-some : goal.returns-clause-some
returns-clause-some c = longest_delimiter_some c.args.text.now _ (c.begun.ensures ∙ begun_in-delimiters _ c.args.text.now refl)
