-- The pieces of a kernel of a program that can be compiled can be placed.
use Rattle.std.proofs.Common.{◌≡◌, ℕ, List, sym, subst}
use Rattle.ada_meaning.specs.Program.{Program}
use Rattle.assembler.specs.Reach.{AreInReach, EndInTime}
use Rattle.assembler.specs.declared.piece.Piece.{Piece}
use Rattle.program_objects.proofs.Placing.{formed_law, able_graphs}
use Rattle.program_objects.specs.Kernels.{IsKernelOf}
use Rattle.program_objects.specs.Made.{IsCompilable}
use Rattle.kernel_code.proofs.PiecesFit.{pieces_can_be_placed}
use Rattle.kernel_code.specs.Pieces.{kernel_pieces, CanBePlaced}
use Rattle.kernel_ir.specs.declared.kernel.Kernel.{Kernel}

placeable : (p : Program) (nodes : ℕ) (k : Kernel) → IsCompilable p → IsKernelOf p nodes k → CanBePlaced (kernel_pieces k)
placeable p nodes k able is = pieces_can_be_placed (able_graphs p) k (formed_law p nodes k able is) is.within

pub in_reach : (p : Program) (nodes : ℕ) (k : Kernel) (pieces : List Piece) → IsCompilable p → IsKernelOf p nodes k → pieces ≡ kernel_pieces k → AreInReach pieces
in_reach p nodes k pieces able is are = subst (λ ps. AreInReach ps) (sym are) (placeable p nodes k able is).in_reach

pub in_time : (p : Program) (nodes : ℕ) (k : Kernel) (pieces : List Piece) → IsCompilable p → IsKernelOf p nodes k → pieces ≡ kernel_pieces k → EndInTime pieces
in_time p nodes k pieces able is are = subst (λ ps. EndInTime ps) (sym are) (placeable p nodes k able is).in_time
