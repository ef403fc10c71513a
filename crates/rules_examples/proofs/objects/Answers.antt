use Rattle.rules_examples.proofs.ObjectsShown.{objects_law}
use Rattle.rules_examples.proofs.objects.Goals as goal

pub returns : goal.returns
returns c = objects_law
