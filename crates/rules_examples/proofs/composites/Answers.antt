use Rattle.rules_examples.proofs.CompositesShown.{composites_law}
use Rattle.rules_examples.proofs.composites.Goals as goal

pub returns : goal.returns
returns c = composites_law
