use Rattle.program_objects.proofs.Statements.{places_are_statements}
use Rattle.program_objects.proofs.soundness.rising_places_are_statements.Goals as goal

pub returns : goal.returns
returns c = places_are_statements
