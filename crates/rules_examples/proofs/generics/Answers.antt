use Rattle.rules_examples.proofs.GenericsShown.{generics_law}
use Rattle.rules_examples.proofs.generics.Goals as goal

pub returns : goal.returns
returns c = generics_law
