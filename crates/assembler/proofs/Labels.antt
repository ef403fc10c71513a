-- Where labels lie, by induction on the pieces and on their items.
use Rattle.std.proofs.Common.{◌≡◌, ℕ, zero, suc, ◌+◌, ◌*◌, ◌%◌, ◌≤◌, ◌<◌, List, [], ◌∷◌, length, take, slice_get, slice_index, Some, refl, sym, ap, ◌∙◌, subst, arith}
use Rattle.rv_semantics.specs.Layout.{text_start}
use Rattle.assembler.specs.declared.piece.Item.{Item}
use Rattle.assembler.specs.declared.piece.Piece.{Piece}
use Rattle.assembler.specs.Placed.{width, words_of, words_in, labels_of, labels_from, labels_at, address_of, labels}
use Rattle.assembler.specs.Reach.{HasLabel}
use Rattle.assembler.specs.Laws.{FirstBegins, LabelsFollow, LabelsLie}

-- the labels of one piece

pub first_label : (address : ℕ) (items : List Item) → slice_index (labels_of address items) 0 ≡ address
first_label address [] = refl
first_label address (item ∷ items) = refl

pub label_follows : (address : ℕ) (items : List Item) (j : ℕ) → j ≤ length items → (j < length (labels_of address items)) × (slice_index (labels_of address items) j ≡ address + 4 * words_of (take j items))
label_follows address [] zero within = (omega arith, omega arith)
label_follows address [] (suc j) within = absurd (omega arith)
label_follows address (item ∷ items) zero within = (omega arith, omega arith)
label_follows address (item ∷ items) (suc j) within =
    let (has, is) = label_follows (address + 4 * width item) items j (omega arith) in
    (omega arith, is ∙ (omega arith))

pub label_lies : (address : ℕ) (items : List Item) (j : ℕ) → address % 4 ≡ 0 → j < length (labels_of address items) → (slice_index (labels_of address items) j % 4 ≡ 0) × (address ≤ slice_index (labels_of address items) j) × (slice_index (labels_of address items) j ≤ address + 4 * words_of items)
label_lies address [] zero aligned has = (aligned, omega arith, omega arith)
label_lies address [] (suc j) aligned has = absurd (omega arith)
label_lies address (item ∷ items) zero aligned has = (aligned, omega arith, omega arith)
label_lies address (item ∷ items) (suc j) aligned has =
    let (multiple, behind, before) = label_lies (address + 4 * width item) items j (omega arith) (omega arith) in
    (multiple, omega arith, omega arith)

-- those of all pieces

pub first_begins : FirstBegins
first_begins piece pieces = first_label text_start piece.items

pub own_labels : (address : ℕ) (pieces : List Piece) (k : ℕ) (piece : Piece) (base : ℕ) → slice_get pieces k ≡ Some piece → address_of (labels_from address pieces) k 0 ≡ base → labels_at (labels_from address pieces) k ≡ labels_of base piece.items
own_labels address [] k piece base is_piece is_base = absurd (let no : ⊥ = cc in no)
own_labels address (p ∷ ps) zero piece base is_piece is_base =
    let same : p ≡ piece = cc in
    let begins : address ≡ base = sym (first_label address p.items) ∙ is_base in
    λ i. labels_of (begins i) (same i).items
own_labels address (p ∷ ps) (suc k) piece base is_piece is_base =
    own_labels (address + 4 * words_of p.items) ps k piece base is_piece is_base

pub labels_follow : LabelsFollow
labels_follow pieces k piece j is_piece within =
    let base = address_of (labels pieces) k 0 in
    let own = own_labels text_start pieces k piece base is_piece refl in
    let (has, is) = label_follows base piece.items j within in
    (subst (λ ls. j < length ls) (sym own) has, ap (λ ls. slice_index ls j) own ∙ is)

pub lies_from : (address : ℕ) (pieces : List Piece) (k j : ℕ) → address % 4 ≡ 0 → HasLabel (labels_from address pieces) k j → (address_of (labels_from address pieces) k j % 4 ≡ 0) × (address ≤ address_of (labels_from address pieces) k j) × (address_of (labels_from address pieces) k j ≤ address + 4 * words_in pieces)
lies_from address [] k j aligned has = absurd (omega arith)
lies_from address (p ∷ ps) zero j aligned has =
    let (multiple, behind, before) = label_lies address p.items j aligned has in
    (multiple, behind, omega arith)
lies_from address (p ∷ ps) (suc k) j aligned has =
    let (multiple, behind, before) = lies_from (address + 4 * words_of p.items) ps k j (omega arith) has in
    (multiple, omega arith, omega arith)

pub labels_lie : LabelsLie
labels_lie pieces k j has = lies_from text_start pieces k j refl has
