use Rattle.rules_examples.proofs.ObligedShown.{obliged_law}
use Rattle.rules_examples.proofs.obliged.Goals as goal

pub returns : goal.returns
returns c = obliged_law
