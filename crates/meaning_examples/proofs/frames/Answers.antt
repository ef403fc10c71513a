use Rattle.meaning_examples.proofs.FrameExamples.{own_variables, places, words_of_input}
use Rattle.meaning_examples.proofs.FormedExamples.{factorial_formed}
use Rattle.meaning_examples.proofs.frames.Goals as goal

pub returns : goal.returns
returns c = record { own_variables = own_variables; well_formed = factorial_formed; places = places; words_of_input = words_of_input }
