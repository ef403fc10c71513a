use Rattle.kernel_code.proofs.PieceLaws.{pieces_are_marked}
use Rattle.kernel_code.proofs.pieces.kernel_pieces_are_marked.Goals as goal

pub returns : goal.returns
returns c = pieces_are_marked
