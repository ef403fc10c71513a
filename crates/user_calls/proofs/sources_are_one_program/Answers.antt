use Rattle.user_calls.proofs.GoesOnLaws.{one_meaning}
use Rattle.user_calls.proofs.sources_are_one_program.Goals as goal

pub returns : goal.returns
returns c = one_meaning
