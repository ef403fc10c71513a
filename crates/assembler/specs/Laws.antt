-- The laws of placed pieces.
use Rattle.std.specs.Prelude.{◌≡◌, ℕ, ◌+◌, ◌*◌, ◌%◌, ◌≤◌, List, ◌∷◌, ◌++◌, length, map, take, slice_get, Some}
use Rattle.rv_isa.specs.declared.ops.BranchOp.{BranchOp}
use Rattle.rv_isa.specs.declared.instr.Instr.TheVariants.{Branch, Jal}
use Rattle.rv_isa.specs.Rows.{word}
use Rattle.rv_isa.specs.Immediates.{branch_offset, jump_offset}
use Rattle.rv_semantics.specs.Layout.{text_start}
use Rattle.rv_semantics.specs.Arithmetic.{sum_32}
use Rattle.rv_semantics.specs.State.{Image}
use Rattle.placed_code.specs.Code.{StandsAt, HasAt}
use Rattle.placed_code.specs.Reach.{branch_halves, jump_halves}
use Rattle.assembler.specs.declared.piece.Item.{Item}
use Rattle.assembler.specs.declared.piece.Item.TheVariants.{Branch as BranchTo, Jump, Call}
use Rattle.assembler.specs.declared.piece.Label.{Label}
use Rattle.assembler.specs.declared.piece.Piece.{Piece}
use Rattle.assembler.specs.declared.piece.PieceId.{PieceId}
use Rattle.assembler.specs.Placed.{words_of, words_in, address_of, item_code, items_code, labels, code}
use Rattle.assembler.specs.Reach.{HasLabel, ItemReaches, ItemsReach, AreInReach, EndInTime, AreItems}

-- an image's text holds these pieces, placed
pub record ArePlaced (image : Image) (pieces : List Piece) : Type 0 where
  pub text : image.text ≡ map word (code pieces)
  pub items : AreItems pieces
  pub in_reach : AreInReach pieces
  pub in_time : EndInTime pieces

-- the first piece begins where the text does
abbrev pub FirstBegins : Type 0
FirstBegins = (piece : Piece) (pieces : List Piece) → address_of (labels (piece ∷ pieces)) 0 0 ≡ text_start

-- the labels of a piece stand behind its items, as far from its first one as the items are long
abbrev pub LabelsFollow : Type 0
LabelsFollow =
    (pieces : List Piece) (k : ℕ) (piece : Piece) (j : ℕ)
    → slice_get pieces k ≡ Some piece → j ≤ length piece.items
    → HasLabel (labels pieces) k j
    × (address_of (labels pieces) k j ≡ address_of (labels pieces) k 0 + 4 * words_of (take j piece.items))

-- a label's address is a multiple of 4, in the text or behind its last word
abbrev pub LabelsLie : Type 0
LabelsLie =
    (pieces : List Piece) (k j : ℕ) → HasLabel (labels pieces) k j
    → (address_of (labels pieces) k j % 4 ≡ 0)
    × (text_start ≤ address_of (labels pieces) k j)
    × (address_of (labels pieces) k j ≤ text_start + 4 * words_in pieces)

-- the instructions of each piece stand at its first label
abbrev pub PiecesStand : Type 0
PiecesStand =
    (image : Image) (pieces : List Piece) (k : ℕ) (piece : Piece)
    → ArePlaced image pieces → slice_get pieces k ≡ Some piece
    → let base = address_of (labels pieces) k 0 in
    HasAt image base (items_code (labels pieces) k base piece.items) × ItemsReach (labels pieces) k base piece.items

-- those of each item stand at its label
abbrev pub ItemsStand : Type 0
ItemsStand =
    (image : Image) (pieces : List Piece) (k : ℕ) (piece : Piece) (j : ℕ) (item : Item)
    → ArePlaced image pieces → slice_get pieces k ≡ Some piece → slice_get piece.items j ≡ Some item
    → let address = address_of (labels pieces) k j in
    HasAt image address (item_code (labels pieces) k address item) × ItemReaches (labels pieces) k address item

-- branches and jumps lead to the addresses of their labels, from wherever they are in reach
abbrev pub BranchesLead : Type 0
BranchesLead =
    (image : Image) (pieces : List Piece) (own from : ℕ) (op : BranchOp) (rs1 rs2 : ℕ) (to : Label)
    → ArePlaced image pieces → from % 4 ≡ 0
    → HasAt image from (item_code (labels pieces) own from (BranchTo op rs1 rs2 to))
    → ItemReaches (labels pieces) own from (BranchTo op rs1 rs2 to)
    → let target = address_of (labels pieces) own to.0 in
    let halves = branch_halves from target in
    StandsAt image from (Branch op rs1 rs2 halves) × (sum_32 from (branch_offset halves) ≡ target) × (target % 4 ≡ 0)

abbrev pub JumpsLead : Type 0
JumpsLead =
    (image : Image) (pieces : List Piece) (own from rd : ℕ) (to : Label)
    → ArePlaced image pieces → from % 4 ≡ 0
    → HasAt image from (item_code (labels pieces) own from (Jump rd to))
    → ItemReaches (labels pieces) own from (Jump rd to)
    → let target = address_of (labels pieces) own to.0 in
    let halves = jump_halves from target in
    StandsAt image from (Jal rd halves) × (sum_32 from (jump_offset halves) ≡ target) × (target % 4 ≡ 0)

abbrev pub CallsLead : Type 0
CallsLead =
    (image : Image) (pieces : List Piece) (own from rd : ℕ) (piece : PieceId) (to : Label)
    → ArePlaced image pieces → from % 4 ≡ 0
    → HasAt image from (item_code (labels pieces) own from (Call rd piece to))
    → ItemReaches (labels pieces) own from (Call rd piece to)
    → let target = address_of (labels pieces) piece.0 to.0 in
    let halves = jump_halves from target in
    StandsAt image from (Jal rd halves) × (sum_32 from (jump_offset halves) ≡ target) × (target % 4 ≡ 0)

-- items of two parts: what is said of both is said of each, the second part behind the first
abbrev pub ItemsInParts : Type 0
ItemsInParts =
    (labels : List (List ℕ)) (own address : ℕ) (xs ys : List Item)
    → (items_code labels own address (xs ++ ys)
    ≡ items_code labels own address xs ++ items_code labels own (address + 4 * words_of xs) ys)
    × (words_of (xs ++ ys) ≡ words_of xs + words_of ys)
    × (length (items_code labels own address xs) ≡ words_of xs)

abbrev pub ReachInParts : Type 0
ReachInParts =
    (labels : List (List ℕ)) (own address : ℕ) (xs ys : List Item)
    → ItemsReach labels own address (xs ++ ys)
    → ItemsReach labels own address xs × ItemsReach labels own (address + 4 * words_of xs) ys

abbrev pub PartsReach : Type 0
PartsReach =
    (labels : List (List ℕ)) (own address : ℕ) (xs ys : List Item)
    → ItemsReach labels own address xs → ItemsReach labels own (address + 4 * words_of xs) ys
    → ItemsReach labels own address (xs ++ ys)
