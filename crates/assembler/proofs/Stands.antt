-- Where placed pieces and their items stand, and where their jumps lead.
use Rattle.std.proofs.Common.{◌≡◌, ℕ, zero, suc, ◌+◌, ◌*◌, ◌%◌, ◌≤◌, ◌<◌, List, [], ◌∷◌, ◌++◌, length, map, take, slice_get, Some, refl, sym, ap, ◌∙◌, subst, arith}
use Rattle.std.proofs.lemmas.List.{append-nil, length-map}
use Rattle.std.proofs.lemmas.Option.{slice_get_within}
use Rattle.rv_isa.specs.declared.instr.Instr.{Instr}
use Rattle.rv_isa.specs.Rows.{word}
use Rattle.rv_semantics.specs.Layout.{memory_bytes, text_start}
use Rattle.rv_semantics.specs.State.{Image}
use Rattle.placed_code.specs.Code.{HasAt, text_end}
use Rattle.placed_code.proofs.CodeLaws.{has_front, has_back, text_stands}
use Rattle.placed_code.proofs.ReachLaws.{branches_land, jumps_land}
use Rattle.assembler.specs.declared.piece.Item.{Item}
use Rattle.assembler.specs.declared.piece.Piece.{Piece}
use Rattle.assembler.specs.Placed.{width, words_of, words_in, labels_from, address_of, item_code, items_code, pieces_code, labels, code}
use Rattle.assembler.specs.Reach.{HasLabel, ItemReaches, ItemsReach, PiecesReach}
use Rattle.assembler.specs.Laws.{ArePlaced, PiecesStand, ItemsStand, BranchesLead, JumpsLead, CallsLead}
use Rattle.assembler.proofs.Labels.{first_label, labels_follow, labels_lie}
use Rattle.assembler.proofs.Codes.{item_length, items_length, pieces_length, pieces_fit}

-- items of the piece `own` stand from an address on, and are in reach of their labels
abbrev Stand : Image → List (List ℕ) → (own address : ℕ) → List Item → Type 0
Stand image labels own address items = HasAt image address (items_code labels own address items) × ItemsReach labels own address items

-- the length of a first part is known, so what is behind it stands there
has_behind : (image : Image) (address words : ℕ) (xs ys : List Instr) → length xs ≡ words → HasAt image address (xs ++ ys) → HasAt image (address + 4 * words) ys
has_behind image address words xs ys e has = subst (λ n. HasAt image (address + 4 * n) ys) e (has_back image address xs ys has)

stand_moved : (image : Image) (labels : List (List ℕ)) (own own' address address' : ℕ) (p p' : Piece) → own ≡ own' → address ≡ address' → p ≡ p' → Stand image labels own address p.items → Stand image labels own' address' p'.items
stand_moved image labels own own' address address' p p' e f g stand =
    subst (λ n. Stand image labels n address' p'.items) e
    (subst (λ a. Stand image labels own a p'.items) f
    (subst (λ (q : Piece). Stand image labels own address q.items) g stand))

stand_from : (image : Image) (all : List (List ℕ)) (own address : ℕ) (pieces : List Piece) (k n base : ℕ) (piece : Piece)
    → slice_get pieces k ≡ Some piece → own + k ≡ n → address_of (labels_from address pieces) k 0 ≡ base
    → HasAt image address (pieces_code all own address pieces) → PiecesReach all own address pieces
    → Stand image all n base piece.items
stand_from image all own address [] k n base piece is_piece is_n is_base has reach = absurd (let no : ⊥ = cc in no)
stand_from image all own address (p ∷ ps) zero n base piece is_piece is_n is_base has reach =
    let same : p ≡ piece = cc in
    let front = items_code all own address p.items in
    let back = pieces_code all (own + 1) (address + 4 * words_of p.items) ps in
    stand_moved image all own n address base p piece (omega arith) (sym (first_label address p.items) ∙ is_base) same
    (has_front image address front back has, reach.0)
stand_from image all own address (p ∷ ps) (suc k) n base piece is_piece is_n is_base has reach =
    let front = items_code all own address p.items in
    let back = pieces_code all (own + 1) (address + 4 * words_of p.items) ps in
    stand_from image all (own + 1) (address + 4 * words_of p.items) ps k n base piece is_piece (omega arith) is_base
    (has_behind image address (words_of p.items) front back (items_length all own address p.items) has) reach.1

-- the whole text stands

text_has : (image : Image) (pieces : List Piece) → ArePlaced image pieces → HasAt image text_start (code pieces)
text_has image pieces placed =
    let all = code pieces in
    let is_text : image.text ≡ map word ([] ++ (all ++ [])) = placed.text ∙ ap (map word) (sym (append-nil all)) in
    let size : length image.text ≡ words_in pieces = ap length placed.text ∙ (length-map all word ∙ pieces_length (labels pieces) 0 text_start pieces) in
    let in_time = placed.in_time in
    let ends : text_end image ≤ memory_bytes = omega arith in
    text_stands image [] all [] is_text (pieces_fit (labels pieces) 0 text_start pieces placed.items) ends

pub pieces_stand : PiecesStand
pieces_stand image pieces k piece placed is_piece =
    stand_from image (labels pieces) 0 text_start pieces k k (address_of (labels pieces) k 0) piece
    is_piece (omega arith) refl (text_has image pieces placed) placed.in_reach

-- one item

item_moved : (image : Image) (labels : List (List ℕ)) (own address address' : ℕ) (i i' : Item) → address ≡ address' → i ≡ i'
    → HasAt image address (item_code labels own address i) × ItemReaches labels own address i
    → HasAt image address' (item_code labels own address' i') × ItemReaches labels own address' i'
item_moved image labels own address address' i i' e f stand =
    subst (λ a. HasAt image a (item_code labels own a i') × ItemReaches labels own a i') e
    (subst (λ (q : Item). HasAt image address (item_code labels own address q) × ItemReaches labels own address q) f stand)

item_stands : (image : Image) (all : List (List ℕ)) (own address : ℕ) (items : List Item) (j at : ℕ) (item : Item)
    → slice_get items j ≡ Some item → address + 4 * words_of (take j items) ≡ at → Stand image all own address items
    → HasAt image at (item_code all own at item) × ItemReaches all own at item
item_stands image all own address [] j at item is_item is_at stand = absurd (let no : ⊥ = cc in no)
item_stands image all own address (x ∷ xs) zero at item is_item is_at (has, reach) =
    let same : x ≡ item = cc in
    let front = item_code all own address x in
    item_moved image all own address at x item (omega arith) same
    (has_front image address front (items_code all own (address + 4 * width x) xs) has, reach.0)
item_stands image all own address (x ∷ xs) (suc j) at item is_item is_at (has, reach) =
    let front = item_code all own address x in
    item_stands image all own (address + 4 * width x) xs j at item is_item (omega arith)
    (has_behind image address (width x) front (items_code all own (address + 4 * width x) xs) (item_length all own address x) has, reach.1)

pub items_stand : ItemsStand
items_stand image pieces k piece j item placed is_piece is_item =
    let within = slice_get_within piece.items j item is_item in
    let (has, is) = labels_follow pieces k piece j is_piece (omega arith) in
    item_stands image (labels pieces) k (address_of (labels pieces) k 0) piece.items j (address_of (labels pieces) k j) item
    is_item (sym is) (pieces_stand image pieces k piece placed is_piece)

-- jumps

lies_in_memory : (image : Image) (pieces : List Piece) (k j : ℕ) → ArePlaced image pieces → HasLabel (labels pieces) k j → (address_of (labels pieces) k j % 4 ≡ 0) × (address_of (labels pieces) k j < memory_bytes)
lies_in_memory image pieces k j placed has =
    let (multiple, behind, before) = labels_lie pieces k j has in
    let in_time = placed.in_time in
    (multiple, omega arith)

pub branches_lead : BranchesLead
branches_lead image pieces own from op rs1 rs2 to placed aligned (stands, behind) (has, reach) =
    let (multiple, inside) = lies_in_memory image pieces own to.0 placed has in
    (stands, (branches_land from (address_of (labels pieces) own to.0) stands.within inside aligned multiple reach).0, multiple)

pub jumps_lead : JumpsLead
jumps_lead image pieces own from rd to placed aligned (stands, behind) (has, reach) =
    let (multiple, inside) = lies_in_memory image pieces own to.0 placed has in
    (stands, (jumps_land from (address_of (labels pieces) own to.0) stands.within inside aligned multiple reach).0, multiple)

pub calls_lead : CallsLead
calls_lead image pieces own from rd piece to placed aligned (stands, behind) (has, reach) =
    let (multiple, inside) = lies_in_memory image pieces piece.0 to.0 placed has in
    (stands, (jumps_land from (address_of (labels pieces) piece.0 to.0) stands.within inside aligned multiple reach).0, multiple)
