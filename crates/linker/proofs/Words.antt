-- How many words stand before an item.
use Rattle.std.proofs.Common.{◌≡◌, ℕ, zero, suc, ◌+◌, ◌*◌, ◌≤◌, ◌<◌, List, [], ◌∷◌, length, take, slice_get, Some, ap, ◌∙◌, ⊎_elim, arith}
use Rattle.std.proofs.lemmas.Bool.{cases_lt}
use Rattle.std.proofs.lemmas.Option.{slice_get-get_or}
use Rattle.assembler.specs.declared.piece.Item.{Item}
use Rattle.assembler.specs.declared.piece.Item.TheVariants.{Plain, Branch, Jump, Call}
use Rattle.assembler.specs.Placed.{width, words_of, labels_of}
use Rattle.assembler.proofs.Labels.{label_follows}

width_counts : (item : Item) → 0 < width item
width_counts (Plain i) = omega arith
width_counts (Branch op rs1 rs2 to) = omega arith
width_counts (Jump rd to) = omega arith
width_counts (Call rd piece to) = omega arith

pub words_to : (items : List Item) (p j : ℕ) → p ≤ j → words_of (take p items) ≤ words_of (take j items)
words_to items zero j less = omega arith
words_to items (suc p) zero less = absurd (omega arith)
words_to [] (suc p) (suc j) less = omega arith
words_to (x ∷ xs) (suc p) (suc j) less = let rest = words_to xs p j (omega arith) in omega arith

pub words_within : (items : List Item) (p : ℕ) → words_of (take p items) ≤ words_of items
words_within items zero = omega arith
words_within [] (suc p) = omega arith
words_within (x ∷ xs) (suc p) = let rest = words_within xs p in omega arith

pub words_grow : (items : List Item) (j : ℕ) → j < length items → words_of (take j items) < words_of (take (suc j) items)
words_grow [] j within = absurd (omega arith)
words_grow (x ∷ xs) zero within = let some = width_counts x in omega arith
words_grow (x ∷ xs) (suc j) within = let rest = words_grow xs j (omega arith) in omega arith

-- the first word of an item stands before the end
pub words_before : (items : List Item) (j : ℕ) → j < length items → words_of (take j items) < words_of items
words_before items j within =
    let grows = words_grow items j within in
    let inside = words_within items (suc j) in
    omega arith

words_less : (items : List Item) (p j : ℕ) → p < j → p < length items → words_of (take p items) < words_of (take j items)
words_less items p j less within =
    let grows = words_grow items p within in
    let more = words_to items (suc p) j (omega arith) in
    omega arith

-- other items stand elsewhere
pub words_differ : (items : List Item) (i j : ℕ) → i < length items → j < length items → (i ≡ j → ⊥) → words_of (take i items) ≡ words_of (take j items) → ⊥
words_differ items i j in_i in_j differ same =
    ⊎_elim
    (λ (less : i < j). let l = words_less items i j less in_i in (let no : ⊥ = omega arith in no))
    (λ (more : j ≤ i). ⊎_elim
    (λ (less : j < i). let l = words_less items j i less in_j in (let no : ⊥ = omega arith in no))
    (λ (other : i ≤ j). differ (omega arith))
    (cases_lt j i))
    (cases_lt i j)

-- the address of an item
pub address_there : (base : ℕ) (items : List Item) (j : ℕ) → j < length items → slice_get (labels_of base items) j ≡ Some (base + 4 * words_of (take j items))
address_there base items j within =
    let (has, is) = label_follows base items j (omega arith) in
    slice_get-get_or (labels_of base items) j 0 has ∙ ap Some is
