use Rattle.placed_code.proofs.Loops.{loop_counts}
use Rattle.placed_code.proofs.stretches.a_loop_counts.Goals as goal

pub returns : goal.returns
returns c = loop_counts
