-- How many bytes the pieces of a kernel take.
use Rattle.std.proofs.Common.{◌≡◌, ◌≤◌, ◌*◌, List, subst, sym, arith}
use Rattle.assembler.specs.declared.piece.Piece.{Piece}
use Rattle.assembler.specs.Placed.{words_in}
use Rattle.kernel_code.specs.Pieces.{kernel_pieces}
use Rattle.kernel_code.proofs.LengthLimits.{pieces_few}
use Rattle.kernel_ir.specs.declared.kernel.Kernel.{Kernel}
use Rattle.kernel_ir.specs.Limits.{kernel_instructions}

pub bytes_few : (k : Kernel) (pieces : List Piece) → pieces ≡ kernel_pieces k → 4 * words_in pieces ≤ 4 * kernel_instructions k
bytes_few k pieces are = subst (λ ps. 4 * words_in ps ≤ 4 * kernel_instructions k) (sym are) (omega (arith, pieces_few k))
