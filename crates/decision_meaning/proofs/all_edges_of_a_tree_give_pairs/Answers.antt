use Rattle.decision_meaning.proofs.AllEdges.{all_edges_law}
use Rattle.decision_meaning.proofs.all_edges_of_a_tree_give_pairs.Goals as goal

pub returns : goal.returns
returns c = record {
  unique_cause = λ e tree vectors all takes k below. (all_edges_law e tree vectors all takes k below).0;
  masking = λ e tree vectors all takes k below. (all_edges_law e tree vectors all takes k below).1;
}
