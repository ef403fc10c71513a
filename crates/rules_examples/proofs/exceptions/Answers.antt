use Rattle.rules_examples.proofs.ExceptionsShown.{exceptions_law}
use Rattle.rules_examples.proofs.exceptions.Goals as goal

pub returns : goal.returns
returns c = exceptions_law
