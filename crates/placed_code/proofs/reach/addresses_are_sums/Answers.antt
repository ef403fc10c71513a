use Rattle.placed_code.proofs.ReachLaws.{frame_words_lie, constants_split}
use Rattle.placed_code.proofs.reach.addresses_are_sums.Goals as goal

pub returns-clause-frame : goal.returns-clause-frame
returns-clause-frame c = frame_words_lie

pub returns-clause-far : goal.returns-clause-far
returns-clause-far c = constants_split
