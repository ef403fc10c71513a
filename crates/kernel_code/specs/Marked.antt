-- What the marks of a piece of lines say.
use Rattle.std.specs.Prelude.{◌≡◌, ℕ, ◌+◌, ◌==◌, nat_eq, Bool, false, ◌&&◌, List, [], ◌∷◌, map, if◌then◌else◌}
use Rattle.rv_isa.specs.declared.ops.BranchOp.TheVariants.{Bne}
use Rattle.rv_isa.specs.declared.instr.Instr.{Instr}
use Rattle.rv_isa.specs.declared.instr.Instr.TheVariants.{Branch}
use Rattle.assembler.specs.declared.piece.Item.{Item}
use Rattle.assembler.specs.declared.piece.Item.TheVariants.{Plain, Branch as BranchTo}
use Rattle.assembler.specs.declared.piece.Mark.{Mark}
use Rattle.assembler.specs.declared.piece.Mark.TheVariants.{Row as RowMark, Role as RoleMark}
use Rattle.assembler.specs.declared.piece.Piece.{Piece}
use Rattle.assembler.specs.Placed.{item_code}
use Rattle.assembler.specs.Marks.{AreMarks}
use Rattle.kernel_ir.specs.declared.kernel.Layout.{Layout}
use Rattle.kernel_ir.specs.Tree.{Code}
use Rattle.kernel_ir.specs.Obligations.{Row, Condition, code_rows, code_conditions}
use Rattle.kernel_code.specs.Line.{Line, items_of, marks_from}
use Rattle.kernel_code.specs.SimpleCode.{Setting}
use Rattle.kernel_code.specs.FillCode.{layout_lines}
use Rattle.kernel_code.specs.Code.{body_lines, start_lines}

-- whether an instruction is the word BNE x10, x0 with some distance, which only branches of conditions are
abbrev pub is_candidate : Instr → Bool
is_candidate (Branch Bne rs1 rs2 halves) = nat_eq rs1 10 && nat_eq rs2 0
is_candidate other = false

-- whether an item becomes one
abbrev pub becomes_candidate : Item → Bool
becomes_candidate (Plain i) = is_candidate i
becomes_candidate (BranchTo Bne rs1 rs2 to) = nat_eq rs1 10 && nat_eq rs2 0
becomes_candidate other = false

-- an item's instruction is a candidate just where the item becomes one
abbrev pub CandidatesComeOfItems : Type 0
CandidatesComeOfItems =
    (labels : List (List ℕ)) (own address : ℕ) (item : Item)
    → map is_candidate (item_code labels own address item) ≡ becomes_candidate item ∷ []

-- the places of such items, of which the first one is at a place
abbrev pub candidate_places : (place : ℕ) → List Item → List ℕ
candidate_places place [] = []
candidate_places place (item ∷ items) =
    if becomes_candidate item then place ∷ candidate_places (place + 1) items else candidate_places (place + 1) items

-- the statements and the conditions that marks name, in order; kind 2 is that of conditions
abbrev pub rows_marked : List Mark → List Row
rows_marked [] = []
rows_marked (RowMark item statement instance ∷ marks) =
    record { statement = statement; instance = instance } ∷ rows_marked marks
rows_marked (RoleMark item kind decision condition value instance ∷ marks) = rows_marked marks

abbrev pub conditions_marked : List Mark → List Condition
conditions_marked [] = []
conditions_marked (RowMark item statement instance ∷ marks) = conditions_marked marks
conditions_marked (RoleMark item kind decision condition value instance ∷ marks) =
    if kind.0 == 2
    then record { decision = decision; at_node = condition.0; instance = instance } ∷ conditions_marked marks
    else conditions_marked marks

-- the places of the branches of conditions, in the order of the marks
abbrev pub condition_places : List Mark → List ℕ
condition_places [] = []
condition_places (RowMark item statement instance ∷ marks) = condition_places marks
condition_places (RoleMark item kind decision condition value instance ∷ marks) =
    if kind.0 == 2 then item.0 ∷ condition_places marks else condition_places marks

-- the piece of lines
abbrev pub piece_of : List Line → Piece
piece_of lines = record { items = items_of lines; marks = marks_from 0 lines }

-- the words BNE x10, x0 of a piece are its branches of conditions, and no others
abbrev pub HasCandidates : Piece → Type 0
HasCandidates piece = condition_places piece.marks ≡ candidate_places 0 piece.items

-- what holds of the piece of such lines: its marks name these statements and conditions
pub record IsMarked (lines : List Line) (started : List Row) (decided : List Condition) : Type 0 where
  pub marks : AreMarks (piece_of lines)
  pub rows : rows_marked (piece_of lines).marks ≡ started
  pub conditions : conditions_marked (piece_of lines).marks ≡ decided
  pub candidates : HasCandidates (piece_of lines)

-- the marks of a body's piece are those of its code, in order, and the start has none
abbrev pub BodiesAreMarked : Type 0
BodiesAreMarked = (e : Setting) (a : Code) → IsMarked (body_lines e a) (code_rows a) (code_conditions a)

-- those of a layout's piece name nothing
abbrev pub LayoutsAreMarked : Type 0
LayoutsAreMarked = (first l : ℕ) (x : Layout) → IsMarked (layout_lines first l x) [] []

abbrev pub StartIsMarked : Type 0
StartIsMarked = (main : ℕ) → IsMarked (start_lines main) [] []
