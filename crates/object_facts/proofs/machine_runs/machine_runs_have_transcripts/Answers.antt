use Rattle.object_facts.proofs.Runs.{runs_good}
use Rattle.object_facts.proofs.machine_runs.machine_runs_have_transcripts.Goals as goal

pub returns : goal.returns
returns c = record {
  runs_on = λ o image budget s input held. (runs_good o image budget s input held).runs_on;
  edges = λ o image budget s input held. (runs_good o image budget s input held).edges;
  ended = λ o image budget s input number held is. (runs_good o image budget s input held).ended number is;
}
