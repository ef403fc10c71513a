use Rattle.meaning_examples.proofs.LoopExamples.{while_loops, for_loops, array_and_case}
use Rattle.meaning_examples.proofs.FormedExamples.{t_formed}
use Rattle.meaning_examples.proofs.loops.Goals as goal

pub returns : goal.returns
returns c = record { while_loops = while_loops; for_loops = for_loops; array_and_case = array_and_case; well_formed = t_formed }
