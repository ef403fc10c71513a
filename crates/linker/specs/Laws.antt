-- What an object file has to be, of a linked image, and what its line table says of each item.
use Rattle.std.specs.Prelude.{◌≡◌, ℕ, ◌<◌, ◌==◌, true, List, [], ◌∷◌, length, map, nat_lt, slice_get, find, Option, Some, None, if◌then◌else◌}
use Rattle.std.specs.List.{AllByRecursion, list_all}
use Rattle.line_table.specs.declared.rows.Row.{Row}
use Rattle.line_table.specs.declared.roles.Role.{Role}
use Rattle.spelling.specs.Checks.{rising}
use Rattle.object_format.specs.Text.{is_in_text}
use Rattle.object_format.specs.RowCheck.{is_in}
use Rattle.object_format.specs.RoleCheck.{branches_from}
use Rattle.assembler.specs.declared.piece.Mark.{Mark}
use Rattle.assembler.specs.declared.piece.Mark.TheVariants.{Row as RowMark, Role as RoleMark}
use Rattle.assembler.specs.declared.piece.Piece.{Piece}
use Rattle.assembler.specs.Placed.{address_of, labels}
use Rattle.assembler.specs.Reach.{AreInReach, EndInTime, AreItems}
use Rattle.assembler.specs.Marks.{AreMarks}
use Rattle.assembler.specs.Laws.{ArePlaced}
use Rattle.linker.specs.Linked.{HasWord, linked}

-- the marks of each piece are what they have to be
abbrev pub AllMarked : List Piece → Type 0
AllMarked pieces = AllByRecursion AreMarks pieces

-- it is entered at an instruction of its text
abbrev pub IsEntered : Type 0
IsEntered = (pieces : List Piece) (init : List ℕ) → HasWord pieces
    → is_in_text (linked pieces init).text (linked pieces init).entry ≡ true

-- rows are at instructions of the text, and their addresses rise
abbrev pub RowsAreInOrder : Type 0
RowsAreInOrder = (pieces : List Piece) (init : List ℕ) → AllMarked pieces
    → let image = linked pieces init in
    (list_all (is_in image.text) image.rows ≡ true)
    × (rising (λ one next. nat_lt one.address next.address) image.rows ≡ true)

-- roles are those of the text's conditional branches, in order
abbrev pub RolesAreBranches : Type 0
RolesAreBranches = (pieces : List Piece) (init : List ℕ) → AllMarked pieces → AreItems pieces
    → let image = linked pieces init in
    map (λ role. role.address) image.roles ≡ branches_from 0x10000 image.text

-- an image of the machine with this text holds the placed pieces
abbrev pub LinkedArePlaced : Type 0
LinkedArePlaced = (pieces : List Piece) (init : List ℕ) (exceptions : ℕ)
    → AreItems pieces → AreInReach pieces → EndInTime pieces
    → ArePlaced (record { text = (linked pieces init).text; exceptions = exceptions }) pieces

-- the row of item j, which stands at an address: that of the first mark that is one
abbrev pub row_at : (address j : ℕ) → List Mark → Option Row
row_at address j [] = None
row_at address j (RowMark item statement instance ∷ marks) =
    if item.0 == j then Some (record { address = address; statement = statement; instance = instance })
    else row_at address j marks
row_at address j (RoleMark item kind decision condition value instance ∷ marks) = row_at address j marks

-- its role
abbrev pub role_at : (address j : ℕ) → List Mark → Option Role
role_at address j [] = None
role_at address j (RowMark item statement instance ∷ marks) = role_at address j marks
role_at address j (RoleMark item kind decision condition value instance ∷ marks) =
    if item.0 == j
    then Some (record { address = address; kind = kind; decision = decision; condition = condition; value = value; instance = instance })
    else role_at address j marks

-- at the address of an item the rows have the row of that item, and the roles its role
abbrev pub RowsAreFound : Type 0
RowsAreFound = (pieces : List Piece) (init : List ℕ) (k : ℕ) (piece : Piece) (j : ℕ) → AllMarked pieces
    → slice_get pieces k ≡ Some piece → j < length piece.items
    → let address = address_of (labels pieces) k j in
    find (λ row. row.address == address) (linked pieces init).rows ≡ row_at address j piece.marks

abbrev pub RolesAreFound : Type 0
RolesAreFound = (pieces : List Piece) (init : List ℕ) (k : ℕ) (piece : Piece) (j : ℕ) → AllMarked pieces
    → slice_get pieces k ≡ Some piece → j < length piece.items
    → let address = address_of (labels pieces) k j in
    find (λ role. role.address == address) (linked pieces init).roles ≡ role_at address j piece.marks
