use Rattle.rules_examples.proofs.ValuesShown.{values_law}
use Rattle.rules_examples.proofs.values.Goals as goal

pub returns : goal.returns
returns c = values_law
