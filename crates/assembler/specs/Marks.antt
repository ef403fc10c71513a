-- What the marks of a piece have to be.
use Rattle.std.specs.Prelude.{◌≡◌, ℕ, ◌+◌, ◌≤◌, ◌<◌, Bool, true, false, List, [], ◌∷◌, length, if◌then◌else◌}
use Rattle.rv_isa.specs.Control.{is_branch}
use Rattle.assembler.specs.declared.piece.Item.{Item}
use Rattle.assembler.specs.declared.piece.Item.TheVariants.{Plain, Branch as BranchTo}
use Rattle.assembler.specs.declared.piece.Mark.{Mark}
use Rattle.assembler.specs.declared.piece.Mark.TheVariants.{Row, Role}
use Rattle.assembler.specs.declared.piece.Piece.{Piece}

-- whether an item is a conditional branch
abbrev pub is_branch_item : Item → Bool
is_branch_item (Plain i) = is_branch i
is_branch_item (BranchTo op rs1 rs2 to) = true
is_branch_item _ = false

-- the places of the conditional branches among items, of which the first one is at a place
abbrev pub branch_places : (place : ℕ) → List Item → List ℕ
branch_places place [] = []
branch_places place (item ∷ items) =
    if is_branch_item item then place ∷ branch_places (place + 1) items else branch_places (place + 1) items

-- the places that role marks name, in the order of the marks
abbrev pub role_places : List Mark → List ℕ
role_places [] = []
role_places (Row item statement instance ∷ marks) = role_places marks
role_places (Role item kind decision condition value instance ∷ marks) = item.0 ∷ role_places marks

-- row marks name places from one on up to another, each behind the one before
abbrev pub RowsRise : (from end : ℕ) → List Mark → Type 0
RowsRise from end [] = Unit {0}
RowsRise from end (Row item statement instance ∷ marks) =
    (from ≤ item.0) × (item.0 < end) × RowsRise (item.0 + 1) end marks
RowsRise from end (Role item kind decision condition value instance ∷ marks) = RowsRise from end marks

-- the rows of a piece are of its items, at most one of each, in their order; its roles are of its
-- conditional branches, one of each and of no other item, in their order
pub record AreMarks (piece : Piece) : Type 0 where
  pub rows : RowsRise 0 (length piece.items) piece.marks
  pub roles : role_places piece.marks ≡ branch_places 0 piece.items
