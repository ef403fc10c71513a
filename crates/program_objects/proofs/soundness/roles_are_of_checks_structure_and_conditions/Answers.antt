use Rattle.program_objects.proofs.Sound.{role_law}
use Rattle.program_objects.proofs.soundness.roles_are_of_checks_structure_and_conditions.Goals as goal

pub returns : goal.returns
returns c = role_law
