-- Which pieces can be placed.
use Rattle.std.specs.Prelude.{ℕ, ◌+◌, ◌*◌, ◌^◌, ◌≤◌, ◌<◌, List, [], ◌∷◌, length}
use Rattle.std.specs.List.{AllByRecursion}
use Rattle.rv_isa.specs.Rows.{IsInstr}
use Rattle.rv_semantics.specs.Layout.{text_start, data_start}
use Rattle.placed_code.specs.Reach.{BranchReaches, JumpReaches}
use Rattle.assembler.specs.declared.piece.Item.{Item}
use Rattle.assembler.specs.declared.piece.Item.TheVariants.{Plain, Branch, Jump, Call}
use Rattle.assembler.specs.declared.piece.Piece.{Piece}
use Rattle.assembler.specs.Placed.{width, words_of, words_in, labels_at, address_of, labels}

-- there is such a label
abbrev pub HasLabel : List (List ℕ) → (piece label : ℕ) → Type 0
HasLabel labels piece label = label < length (labels_at labels piece)

-- an item of the piece `own` that stands at an address is in reach of its label
abbrev pub ItemReaches : List (List ℕ) → (own address : ℕ) → Item → Type 0
ItemReaches labels own address (Plain i) = Unit {0}
ItemReaches labels own address (Branch op rs1 rs2 to) =
    HasLabel labels own to.0 × BranchReaches address (address_of labels own to.0)
ItemReaches labels own address (Jump rd to) =
    HasLabel labels own to.0 × JumpReaches address (address_of labels own to.0)
ItemReaches labels own address (Call rd piece to) =
    HasLabel labels piece.0 to.0 × JumpReaches address (address_of labels piece.0 to.0)

-- items from an address on
abbrev pub ItemsReach : List (List ℕ) → (own address : ℕ) → List Item → Type 0
ItemsReach labels own address [] = Unit {0}
ItemsReach labels own address (item ∷ items) =
    ItemReaches labels own address item × ItemsReach labels own (address + 4 * width item) items

-- pieces from an address on, of which the first one is number `own`
abbrev pub PiecesReach : List (List ℕ) → (own address : ℕ) → List Piece → Type 0
PiecesReach labels own address [] = Unit {0}
PiecesReach labels own address (piece ∷ pieces) =
    ItemsReach labels own address piece.items
    × PiecesReach labels (own + 1) (address + 4 * words_of piece.items) pieces

-- each jump has a label, and is in reach of it
abbrev pub AreInReach : List Piece → Type 0
AreInReach pieces = PiecesReach (labels pieces) 0 text_start pieces

-- the text ends where the data begin, or before
abbrev pub EndInTime : List Piece → Type 0
EndInTime pieces = text_start + 4 * words_in pieces ≤ data_start

-- the operands of an item fit their fields, which those of each item of a program do
abbrev pub IsItem : Item → Type 0
IsItem (Plain i) = IsInstr i
IsItem (Branch op rs1 rs2 to) = (rs1 < 2 ^ 5) × (rs2 < 2 ^ 5)
IsItem (Jump rd to) = rd < 2 ^ 5
IsItem (Call rd piece to) = rd < 2 ^ 5

-- those of all items of pieces
abbrev pub AreItems : List Piece → Type 0
AreItems pieces = AllByRecursion (λ piece. AllByRecursion IsItem piece.items) pieces
