use Rattle.meaning_examples.proofs.ParameterExamples.{copies_back, out_first, both_instances}
use Rattle.meaning_examples.proofs.parameters.Goals as goal

pub returns : goal.returns
returns c = record { copies_back = copies_back; out_first = out_first; both_instances = both_instances }
