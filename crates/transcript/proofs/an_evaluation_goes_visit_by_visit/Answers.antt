use Rattle.std.proofs.Common.{refl}
use Rattle.transcript.proofs.Replays.{reached_follows}
use Rattle.transcript.proofs.Vectors.{goes_on, comes_to_leaf}
use Rattle.transcript.proofs.an_evaluation_goes_visit_by_visit.Goals as goal

pub returns : goal.returns
returns c = record {
  begins = λ o d all. refl;
  follows = reached_follows;
  goes_on = goes_on;
  completes = comes_to_leaf;
}
