use Rattle.program_objects.proofs.OneCopy.{statement_law, condition_law}
use Rattle.program_objects.proofs.soundness.obligations_stand_in_one_copy.Goals as goal

pub returns-clause-statements : goal.returns-clause-statements
returns-clause-statements c = statement_law

pub returns-clause-conditions : goal.returns-clause-conditions
returns-clause-conditions c = condition_law
