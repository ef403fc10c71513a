use Rattle.transcript.proofs.Blocks.{all_closed, open_is, one_last}
use Rattle.transcript.proofs.pieces_are_pieces_of_the_text.Goals as goal

pub returns : goal.returns
returns c = record { closed = all_closed; left = open_is; one_last = one_last }
