use Rattle.kernel_code.proofs.PiecesFit.{pieces_can_be_placed}
use Rattle.kernel_code.proofs.pieces.kernel_pieces_can_be_placed.Goals as goal

pub returns : goal.returns
returns c = pieces_can_be_placed
