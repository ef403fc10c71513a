use Rattle.rules_examples.proofs.ApartShown.{apart_law}
use Rattle.rules_examples.proofs.apart.Goals as goal

pub returns : goal.returns
returns c = apart_law
