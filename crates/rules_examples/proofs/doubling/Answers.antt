use Rattle.rules_examples.proofs.DoublingShown.{doubling_law}
use Rattle.rules_examples.proofs.doubling.Goals as goal

pub returns : goal.returns
returns c = doubling_law
