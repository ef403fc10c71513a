use Rattle.rules_examples.proofs.PackagesShown.{packages_law}
use Rattle.rules_examples.proofs.packages.Goals as goal

pub returns : goal.returns
returns c = packages_law
