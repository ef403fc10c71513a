use Rattle.program_objects.proofs.Sound.{made_law}
use Rattle.program_objects.proofs.soundness.made_objects_pass_their_checks.Goals as goal

pub returns : goal.returns
returns c = made_law
