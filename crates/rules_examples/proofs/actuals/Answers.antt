use Rattle.rules_examples.proofs.ActualsShown.{actuals_law}
use Rattle.rules_examples.proofs.actuals.Goals as goal

pub returns : goal.returns
returns c = actuals_law
