use Rattle.rules_examples.proofs.ConditionsShown.{conditions_law}
use Rattle.rules_examples.proofs.conditions.Goals as goal

pub returns : goal.returns
returns c = conditions_law
