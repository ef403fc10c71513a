use Rattle.rules_examples.proofs.ScalarsShown.{scalars_law}
use Rattle.rules_examples.proofs.scalars.Goals as goal

pub returns : goal.returns
returns c = scalars_law
