use Rattle.kernel_code.specs.Pieces.{kernel_pieces}
use Rattle.kernel_code.specs.Standing.{site_of}
use Rattle.kernel_code.proofs.Implements.{code_implements}
use Rattle.kernel_code.proofs.PieceLaws.{pieces_are_marked}
use Rattle.kernel_code.proofs.Stands.{placed_kernels_hold}
use Rattle.kernel_code.proofs.Whole.{code_follows_law}
use Rattle.kernel_code.proofs.pieces.placed_pieces_implement_their_kernel.Goals as goal

pub returns : goal.returns
returns c image facts p placed have fair raised formed within =
    code_implements code_follows_law (site_of image facts (kernel_pieces p)) p
    (placed_kernels_hold image facts (kernel_pieces p) p placed have (pieces_are_marked p).have fair raised) formed within
