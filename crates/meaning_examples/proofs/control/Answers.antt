use Rattle.meaning_examples.proofs.ControlExamples.{choices, end_of_function, cut_off}
use Rattle.meaning_examples.proofs.control.Goals as goal

pub returns : goal.returns
returns c = record { choices = choices; end_of_function = end_of_function; cut_off = cut_off }
