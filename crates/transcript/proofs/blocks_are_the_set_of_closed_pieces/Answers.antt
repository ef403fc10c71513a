use Rattle.transcript.proofs.Fits.{blocks_are, set_of_text, blocks_rise, blocks_flagged}
use Rattle.transcript.proofs.blocks_are_the_set_of_closed_pieces.Goals as goal

pub returns : goal.returns
returns c = record { pieces = blocks_are; text = set_of_text; order = blocks_rise; flags = blocks_flagged }
