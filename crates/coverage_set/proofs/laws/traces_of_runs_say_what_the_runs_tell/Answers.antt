use Rattle.coverage_set.proofs.RunLaw.{run_law}
use Rattle.coverage_set.proofs.laws.traces_of_runs_say_what_the_runs_tell.Goals as goal

pub returns : goal.returns
returns c = run_law
