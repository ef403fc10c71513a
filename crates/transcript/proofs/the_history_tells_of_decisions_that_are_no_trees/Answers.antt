use Rattle.transcript.proofs.Flat.{history_visits}
use Rattle.transcript.proofs.SaidLaw.{history_done}
use Rattle.transcript.proofs.Fits.{history_flat, history_follows}
use Rattle.transcript.proofs.the_history_tells_of_decisions_that_are_no_trees.Goals as goal

pub returns : goal.returns
returns c = record {
  flat = history_flat;
  visits = history_visits;
  completed = history_done;
  disciplined = history_follows;
}
