-- What pieces become: words that stand one after the other from the start of the text on, and the
-- addresses of their labels.
use Rattle.std.specs.Prelude.{ℕ, ◌+◌, ◌*◌, List, [], ◌∷◌, ◌++◌, map, unwrap_or, slice_get, slice_index}
use Rattle.rv_isa.specs.declared.instr.Instr.{Instr}
use Rattle.rv_isa.specs.declared.instr.Instr.TheVariants.{Branch, Jal}
use Rattle.rv_isa.specs.Rows.{word}
use Rattle.rv_semantics.specs.Layout.{text_start}
use Rattle.placed_code.specs.Reach.{branch_halves, jump_halves}
use Rattle.assembler.specs.declared.piece.Item.{Item}
use Rattle.assembler.specs.declared.piece.Item.TheVariants.{Plain, Branch as BranchTo, Jump, Call}
use Rattle.assembler.specs.declared.piece.Piece.{Piece}
use Rattle.assembler.specs.declared.placing.Words.{Words}

-- how many words an item takes
abbrev pub width : Item → ℕ
width (Plain i) = 1
width (BranchTo op rs1 rs2 to) = 1
width (Jump rd to) = 1
width (Call rd piece to) = 1

-- how many words items take
abbrev pub words_of : List Item → ℕ
words_of [] = 0
words_of (item ∷ items) = width item + words_of items

-- how many words pieces take
abbrev pub words_in : List Piece → ℕ
words_in [] = 0
words_in (piece ∷ pieces) = words_of piece.items + words_in pieces

-- the addresses of the labels of items that stand from an address on: one before each item, and one
-- behind the last
abbrev pub labels_of : (address : ℕ) → List Item → List ℕ
labels_of address [] = address ∷ []
labels_of address (item ∷ items) = address ∷ labels_of (address + 4 * width item) items

-- the addresses of the labels of each piece
abbrev pub labels_from : (address : ℕ) → List Piece → List (List ℕ)
labels_from address [] = []
labels_from address (piece ∷ pieces) =
    labels_of address piece.items ∷ labels_from (address + 4 * words_of piece.items) pieces

-- the addresses of the labels of a piece: none where there is no such piece
abbrev pub labels_at : List (List ℕ) → (piece : ℕ) → List ℕ
labels_at labels piece = unwrap_or (slice_get labels piece) []

-- the address of a label
abbrev pub address_of : List (List ℕ) → (piece label : ℕ) → ℕ
address_of labels piece label = slice_index (labels_at labels piece) label

-- the instructions of an item of the piece `own` that stands at an address: a jump leads from there to
-- the address of its label
abbrev pub item_code : List (List ℕ) → (own address : ℕ) → Item → List Instr
item_code labels own address (Plain i) = i ∷ []
item_code labels own address (BranchTo op rs1 rs2 to) =
    Branch op rs1 rs2 (branch_halves address (address_of labels own to.0)) ∷ []
item_code labels own address (Jump rd to) = Jal rd (jump_halves address (address_of labels own to.0)) ∷ []
item_code labels own address (Call rd piece to) =
    Jal rd (jump_halves address (address_of labels piece.0 to.0)) ∷ []

-- the instructions of items of the piece `own`, from an address on
abbrev pub items_code : List (List ℕ) → (own address : ℕ) → List Item → List Instr
items_code labels own address [] = []
items_code labels own address (item ∷ items) =
    item_code labels own address item ++ items_code labels own (address + 4 * width item) items

-- the instructions of pieces, of which the first one is number `own`, from an address on
abbrev pub pieces_code : List (List ℕ) → (own address : ℕ) → List Piece → List Instr
pieces_code labels own address [] = []
pieces_code labels own address (piece ∷ pieces) =
    items_code labels own address piece.items
    ++ pieces_code labels (own + 1) (address + 4 * words_of piece.items) pieces

-- the addresses of all labels of pieces
abbrev pub labels : List Piece → List (List ℕ)
labels pieces = labels_from text_start pieces

-- the instructions of pieces
abbrev pub code : List Piece → List Instr
code pieces = pieces_code (labels pieces) 0 text_start pieces

-- the words of the text, and the address of each label
abbrev pub placed : List Piece → Words
placed pieces = record { text = map word (code pieces); labels = labels pieces }
