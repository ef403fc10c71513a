-- When the code of a kernel stands in an image: its pieces are placed, and their marks are found at the
-- addresses of their items.
use Rattle.std.specs.Prelude.{◌≡◌, ℕ, ◌+◌, ◌≤◌, ◌<◌, ◌==◌, List, [], ◌∷◌, length, slice_get, Option, Some, None, if◌then◌else◌}
use Rattle.rv_semantics.specs.State.{Image}
use Rattle.transcript.specs.Facts.{Facts, Row, Condition, AreFair}
use Rattle.assembler.specs.declared.piece.Mark.{Mark}
use Rattle.assembler.specs.declared.piece.Mark.TheVariants.{Row as RowMark, Role as RoleMark}
use Rattle.assembler.specs.declared.piece.Piece.{Piece}
use Rattle.assembler.specs.Placed.{address_of, labels}
use Rattle.assembler.specs.Laws.{ArePlaced}
use Rattle.kernel_ir.specs.declared.kernel.Body.{Body}
use Rattle.kernel_ir.specs.declared.kernel.Kernel.{Kernel}
use Rattle.kernel_ir.specs.declared.kernel.Layout.{Layout}
use Rattle.kernel_code.specs.Line.{Line, Site, HasLines}
use Rattle.kernel_code.specs.Code.{body_lines, start_lines}
use Rattle.kernel_code.specs.FillCode.{layout_lines}
use Rattle.kernel_code.specs.Calls.{first_layout, setting, Holds}
use Rattle.kernel_code.specs.Marked.{piece_of}

-- the row that marks give an item: that of the first mark that is one
abbrev pub row_marked : (item : ℕ) → List Mark → Option Row
row_marked j [] = None
row_marked j (RowMark item statement instance ∷ marks) =
    if item.0 == j then Some (record { statement = statement; instance = instance }) else row_marked j marks
row_marked j (RoleMark item kind decision condition value instance ∷ marks) = row_marked j marks

-- the condition that they give it: that of its first role, where that is of kind 2
abbrev pub condition_marked : (item : ℕ) → List Mark → Option Condition
condition_marked j [] = None
condition_marked j (RowMark item statement instance ∷ marks) = condition_marked j marks
condition_marked j (RoleMark item kind decision condition value instance ∷ marks) =
    if item.0 == j then (
    if kind.0 == 2 then Some (record {
      decision = decision;
      at_node = condition.0;
      when_taken = value == 1;
      instance = instance;
    }) else None
    ) else condition_marked j marks

-- what is said of the address of an item is what its piece's marks give it
pub record HaveMarks (facts : Facts) (pieces : List Piece) : Type 0 where
  pub rows : (k : ℕ) (piece : Piece) (j : ℕ) → slice_get pieces k ≡ Some piece → j < length piece.items
      → facts.row (address_of (labels pieces) k j) ≡ row_marked j piece.marks
  pub conditions : (k : ℕ) (piece : Piece) (j : ℕ) → slice_get pieces k ≡ Some piece → j < length piece.items
      → facts.condition (address_of (labels pieces) k j) ≡ condition_marked j piece.marks

-- where pieces stand that are placed in an image
abbrev pub site_of : Image → Facts → List Piece → Site
site_of image facts pieces = record { image = image; facts = facts; address = address_of (labels pieces) }

-- the lines of a piece stand where it is placed
abbrev pub PiecesHaveLines : Type 0
PiecesHaveLines =
    (image : Image) (facts : Facts) (pieces : List Piece) (own : ℕ) (lines : List Line)
    → ArePlaced image pieces → HaveMarks facts pieces → slice_get pieces own ≡ Some (piece_of lines)
    → HasLines (site_of image facts pieces) own 0 lines

-- the pieces of a kernel: the start is piece 0, body f is piece f + 1, and behind the bodies are the layouts
pub record HavePieces (pieces : List Piece) (p : Kernel) : Type 0 where
  pub start : slice_get pieces 0 ≡ Some (piece_of (start_lines p.main))
  pub bodies : (f : ℕ) (b : Body) → slice_get p.bodies f ≡ Some b
      → slice_get pieces (f + 1) ≡ Some (piece_of (body_lines (setting p b.width) b.code))
  pub layouts : (l : ℕ) (x : Layout) → slice_get p.layouts l ≡ Some x
      → slice_get pieces (first_layout p + l) ≡ Some (piece_of (layout_lines (first_layout p) l x))

-- where a kernel's pieces are placed and their marks are found, in an image that has its exceptions, the
-- image holds the kernel
abbrev pub PlacedKernelsHold : Type 0
PlacedKernelsHold =
    (image : Image) (facts : Facts) (pieces : List Piece) (p : Kernel)
    → ArePlaced image pieces → HaveMarks facts pieces → HavePieces pieces p
    → AreFair facts → p.exceptions ≤ image.exceptions → Holds (site_of image facts pieces) p
