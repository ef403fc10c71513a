use Rattle.program_objects.proofs.Placing.{text_bound}
use Rattle.program_objects.proofs.soundness.texts_are_bounded.Goals as goal

pub returns : goal.returns
returns c = text_bound
