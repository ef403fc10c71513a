use Rattle.cov_base.specs.Expr.{size}
use Rattle.decision_meaning.specs.Pair.{is_unique_cause, is_masking}
use Rattle.decision_meaning.proofs.Symmetry.{unique_cause_swaps, masking_swaps, lesser_first}
use Rattle.decision_meaning.proofs.a_pair_may_be_exchanged.Goals as goal

pub returns : goal.returns
returns c = record {
  unique_cause = unique_cause_swaps;
  masking = masking_swaps;
  lesser_of_unique_cause = λ e k vectors p least. lesser_first (is_unique_cause e k) (unique_cause_swaps e k) (size e) vectors p least;
  lesser_of_masking = λ e k vectors p least. lesser_first (is_masking e k) (masking_swaps e k) (size e) vectors p least;
}
