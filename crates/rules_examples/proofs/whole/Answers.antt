use Rattle.rules_examples.proofs.WholeShown.{whole_law}
use Rattle.rules_examples.proofs.whole.Goals as goal

pub returns : goal.returns
returns c = whole_law
