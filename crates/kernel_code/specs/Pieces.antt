-- The pieces of a kernel's code, and what holds of them.
use Rattle.std.specs.Prelude.{◌≡◌, ℕ, ◌+◌, ◌≤◌, List, [], ◌∷◌, ◌++◌, map}
use Rattle.std.specs.List.{AllByRecursion}
use Rattle.cov_base.specs.declared.position.DecId.{DecId}
use Rattle.cov_base.specs.Graph.{Edges}
use Rattle.rv_semantics.specs.State.{Image}
use Rattle.transcript.specs.Facts.{Facts, AreFair}
use Rattle.assembler.specs.declared.piece.Piece.{Piece}
use Rattle.assembler.specs.Reach.{AreInReach, EndInTime}
use Rattle.assembler.specs.Marks.{AreMarks}
use Rattle.assembler.specs.Laws.{ArePlaced}
use Rattle.kernel_ir.specs.declared.kernel.Body.{Body}
use Rattle.kernel_ir.specs.declared.kernel.Kernel.{Kernel}
use Rattle.kernel_ir.specs.declared.kernel.Layout.{Layout}
use Rattle.kernel_ir.specs.Limits.{IsWellFormed, IsWithin}
use Rattle.kernel_ir.specs.Obligations.{Row, Condition, rows, conditions}
use Rattle.kernel_code.specs.Code.{body_lines, start_lines}
use Rattle.kernel_code.specs.FillCode.{layout_lines}
use Rattle.kernel_code.specs.Calls.{first_layout, setting}
use Rattle.kernel_code.specs.Marked.{piece_of, rows_marked, conditions_marked, HasCandidates}
use Rattle.kernel_code.specs.Standing.{HaveMarks, HavePieces, site_of}
use Rattle.kernel_code.specs.Implements.{Implements}

-- the piece of a body
abbrev pub body_piece : Kernel → Body → Piece
body_piece p b = piece_of (body_lines (setting p b.width) b.code)

-- the pieces of layouts, of which the first one has the number l
abbrev pub layout_pieces : (first l : ℕ) → List Layout → List Piece
layout_pieces first l [] = []
layout_pieces first l (x ∷ xs) = piece_of (layout_lines first l x) ∷ layout_pieces first (l + 1) xs

-- the pieces of a kernel: of the start, of the bodies and of the layouts
abbrev pub kernel_pieces : Kernel → List Piece
kernel_pieces p =
    piece_of (start_lines p.main)
    ∷ (map (body_piece p) p.bodies ++ layout_pieces (first_layout p) 0 p.layouts)

-- the statements and the conditions that the marks of pieces name, in order
abbrev pub rows_of_pieces : List Piece → List Row
rows_of_pieces [] = []
rows_of_pieces (piece ∷ pieces) = rows_marked piece.marks ++ rows_of_pieces pieces

abbrev pub conditions_of_pieces : List Piece → List Condition
conditions_of_pieces [] = []
conditions_of_pieces (piece ∷ pieces) = conditions_marked piece.marks ++ conditions_of_pieces pieces

-- the marks of a kernel's pieces are what the assembler asks for, and name the statements that start in
-- the kernel and the conditions that are evaluated in it, in order; the words BNE x10, x0 are just the
-- branches of those conditions
pub record AreKernelPieces (p : Kernel) : Type 0 where
  pub have : HavePieces (kernel_pieces p) p
  pub marks : AllByRecursion AreMarks (kernel_pieces p)
  pub candidates : AllByRecursion HasCandidates (kernel_pieces p)
  pub rows_named : rows_of_pieces (kernel_pieces p) ≡ rows p
  pub conditions_named : conditions_of_pieces (kernel_pieces p) ≡ conditions p

abbrev pub PiecesAreMarked : Type 0
PiecesAreMarked = (p : Kernel) → AreKernelPieces p

-- the pieces of a kernel within its limits can be placed: jumps reach their labels, and the text ends
-- before the data
pub record CanBePlaced (pieces : List Piece) : Type 0 where
  pub in_reach : AreInReach pieces
  pub in_time : EndInTime pieces

abbrev pub PiecesCanBePlaced : Type 0
PiecesCanBePlaced =
    (graph : DecId → List Edges) (p : Kernel) → IsWellFormed graph p → IsWithin p → CanBePlaced (kernel_pieces p)

-- where the pieces of a kernel are placed in an image that has its exceptions, and their marks are found
-- at the addresses of their items, the image implements the kernel
abbrev pub PlacedPiecesImplement : Type 0
PlacedPiecesImplement =
    (image : Image) (facts : Facts) (p : Kernel)
    → ArePlaced image (kernel_pieces p) → HaveMarks facts (kernel_pieces p) → AreFair facts
    → p.exceptions ≤ image.exceptions → IsWellFormed facts.graph p → IsWithin p
    → Implements (site_of image facts (kernel_pieces p)) p
