use Rattle.ada_meaning.proofs.FuelExecution.{one_ending_law}
use Rattle.ada_meaning.proofs.one_ending.Goals as goal

pub returns : goal.returns
returns c = one_ending_law
