-- Shown by computing.
use Rattle.std.proofs.Common.{refl}
use Rattle.ada_meaning.specs.Execution.{deepest}
use Rattle.meaning_examples.specs.Frames.{OwnVariables, Places, WordsOfInput}

pub own_variables : OwnVariables
unfolding deepest
own_variables = refl

pub places : Places
unfolding deepest
places = refl

pub words_of_input : WordsOfInput
unfolding deepest
words_of_input = (refl, refl)
