use Rattle.transcript.proofs.SaidLaw.{flags_tell}
use Rattle.transcript.proofs.the_flags_tell_of_tree_decisions.Goals as goal

pub returns : goal.returns
returns c = flags_tell
