use Rattle.rules_examples.proofs.ConformanceShown.{conformance_law}
use Rattle.rules_examples.proofs.conformance.Goals as goal

pub returns : goal.returns
returns c = conformance_law
