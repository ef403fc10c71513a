use Rattle.coverage_set.proofs.PieceLaw.{same_added}
use Rattle.coverage_set.proofs.laws.a_trace_in_pieces_is_the_trace.Goals as goal

pub returns : goal.returns
returns c = same_added
