use Rattle.rv_semantics.proofs.Runs.{carries_the_run}
use Rattle.rv_semantics.proofs.laws.a_past_lists_the_run.Goals as goal

pub returns : goal.returns
returns c = carries_the_run
