-- The image of pieces and data.
use Rattle.std.specs.Prelude.{ℕ, ◌+◌, ◌*◌, ◌≤◌, ◌<◌, List, [], ◌∷◌, ◌++◌, length, map, slice_get, Option, None, option_map}
use Rattle.std.specs.List.{filter_map}
use Rattle.line_table.specs.declared.rows.Row.{Row}
use Rattle.line_table.specs.declared.roles.Role.{Role}
use Rattle.rv_isa.specs.Rows.{word}
use Rattle.rv_semantics.specs.Layout.{memory_bytes, data_start}
use Rattle.assembler.specs.declared.piece.Mark.{Mark}
use Rattle.assembler.specs.declared.piece.Mark.TheVariants.{Row as RowMark, Role as RoleMark}
use Rattle.assembler.specs.declared.piece.Piece.{Piece}
use Rattle.assembler.specs.Placed.{words_of, labels_at, address_of, labels, code}
use Rattle.linker.specs.declared.image.Image.{Image}

-- the row of a mark in a piece whose labels have these addresses
abbrev pub row_of : List ℕ → Mark → Option Row
row_of own (RowMark item statement instance) =
    option_map (λ address. record { address = address; statement = statement; instance = instance }) (slice_get own item.0)
row_of own (RoleMark item kind decision condition value instance) = None

-- the role of one
abbrev pub role_of : List ℕ → Mark → Option Role
role_of own (RowMark item statement instance) = None
role_of own (RoleMark item kind decision condition value instance) =
    option_map
    (λ address. record { address = address; kind = kind; decision = decision; condition = condition; value = value; instance = instance })
    (slice_get own item.0)

-- the rows of pieces, of which the first one is number `own`, in order of pieces and of marks
abbrev pub rows_from : List (List ℕ) → (own : ℕ) → List Piece → List Row
rows_from labels own [] = []
rows_from labels own (piece ∷ pieces) =
    filter_map (row_of (labels_at labels own)) piece.marks ++ rows_from labels (own + 1) pieces

-- their roles
abbrev pub roles_from : List (List ℕ) → (own : ℕ) → List Piece → List Role
roles_from labels own [] = []
roles_from labels own (piece ∷ pieces) =
    filter_map (role_of (labels_at labels own)) piece.marks ++ roles_from labels (own + 1) pieces

-- the image: it is entered at the first word of the first piece
abbrev pub linked : List Piece → (init : List ℕ) → Image
linked pieces init = record {
  entry = address_of (labels pieces) 0 0;
  text = map word (code pieces);
  init_at = data_start;
  init = init;
  rows = rows_from (labels pieces) 0 pieces;
  roles = roles_from (labels pieces) 0 pieces;
}

-- the first piece has a word
abbrev pub HasWord : List Piece → Type 0
HasWord [] = ⊥
HasWord (piece ∷ pieces) = 0 < words_of piece.items

-- the data lie within memory
abbrev pub AreWithin : (init : List ℕ) → Type 0
AreWithin init = data_start + 4 * length init ≤ memory_bytes
