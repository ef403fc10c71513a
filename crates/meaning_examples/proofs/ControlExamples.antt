-- Shown by computing.
use Rattle.std.proofs.Common.{refl}
use Rattle.ada_meaning.specs.Execution.{deepest}
use Rattle.meaning_examples.specs.Control.{Choices, EndOfFunction, CutOff}

pub choices : Choices
unfolding deepest
choices = (refl, refl)

pub end_of_function : EndOfFunction
unfolding deepest
end_of_function = refl

pub cut_off : CutOff
unfolding deepest
cut_off = (refl, refl, refl)
