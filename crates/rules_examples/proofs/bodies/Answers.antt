use Rattle.rules_examples.proofs.BodiesShown.{bodies_law}
use Rattle.rules_examples.proofs.bodies.Goals as goal

pub returns : goal.returns
returns c = bodies_law
