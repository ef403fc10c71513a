-- The instructions of items: how many there are, that they fit, and their parts.
use Rattle.std.proofs.Common.{◌≡◌, ℕ, ◌+◌, ◌*◌, List, [], ◌∷◌, ◌++◌, length, refl, sym, ap, ◌∙◌, subst, arith, append_assoc, length-append}
use Rattle.std.specs.List.{AllByRecursion}
use Rattle.rv_isa.specs.Rows.{IsInstr}
use Rattle.assembler.specs.declared.piece.Item.{Item}
use Rattle.assembler.specs.declared.piece.Item.TheVariants.{Plain, Branch, Jump, Call}
use Rattle.assembler.specs.declared.piece.Piece.{Piece}
use Rattle.assembler.specs.Placed.{width, words_of, words_in, item_code, items_code, pieces_code}
use Rattle.assembler.specs.Reach.{ItemsReach, IsItem, AreItems}
use Rattle.assembler.specs.Laws.{ItemsInParts, ReachInParts, PartsReach}

pub all_append : {X : Type 0} (P : X → Type 0) (xs ys : List X) → AllByRecursion P xs → AllByRecursion P ys → AllByRecursion P (xs ++ ys)
all_append P [] ys hx hy = hy
all_append P (x ∷ xs) ys hx hy = (hx.0, all_append P xs ys hx.1 hy)

-- lengths

pub item_length : (labels : List (List ℕ)) (own address : ℕ) (item : Item) → length (item_code labels own address item) ≡ width item
item_length labels own address (Plain i) = refl
item_length labels own address (Branch op rs1 rs2 to) = refl
item_length labels own address (Jump rd to) = refl
item_length labels own address (Call rd piece to) = refl

pub items_length : (labels : List (List ℕ)) (own address : ℕ) (items : List Item) → length (items_code labels own address items) ≡ words_of items
items_length labels own address [] = refl
items_length labels own address (item ∷ items) =
    let front = item_code labels own address item in
    let back = items_code labels own (address + 4 * width item) items in
    length-append front back
    ∙ (λ i. item_length labels own address item i + items_length labels own (address + 4 * width item) items i)

pub pieces_length : (labels : List (List ℕ)) (own address : ℕ) (pieces : List Piece) → length (pieces_code labels own address pieces) ≡ words_in pieces
pieces_length labels own address [] = refl
pieces_length labels own address (p ∷ ps) =
    let back = pieces_code labels (own + 1) (address + 4 * words_of p.items) ps in
    length-append (items_code labels own address p.items) back
    ∙ (λ i. items_length labels own address p.items i + pieces_length labels (own + 1) (address + 4 * words_of p.items) ps i)

-- operands that fit

item_fits : (labels : List (List ℕ)) (own address : ℕ) (item : Item) → IsItem item → AllByRecursion IsInstr (item_code labels own address item)
item_fits labels own address (Plain i) fits = (fits, tt)
item_fits labels own address (Branch op rs1 rs2 to) (in_rs1, in_rs2) = ((in_rs1, in_rs2, omega arith), tt)
item_fits labels own address (Jump rd to) fits = ((fits, omega arith), tt)
item_fits labels own address (Call rd piece to) fits = ((fits, omega arith), tt)

pub items_fit : (labels : List (List ℕ)) (own address : ℕ) (items : List Item) → AllByRecursion IsItem items → AllByRecursion IsInstr (items_code labels own address items)
items_fit labels own address [] fit = tt
items_fit labels own address (item ∷ items) fit =
    all_append IsInstr (item_code labels own address item) (items_code labels own (address + 4 * width item) items)
    (item_fits labels own address item fit.0) (items_fit labels own (address + 4 * width item) items fit.1)

pub pieces_fit : (labels : List (List ℕ)) (own address : ℕ) (pieces : List Piece) → AreItems pieces → AllByRecursion IsInstr (pieces_code labels own address pieces)
pieces_fit labels own address [] fit = tt
pieces_fit labels own address (p ∷ ps) fit =
    all_append IsInstr (items_code labels own address p.items) (pieces_code labels (own + 1) (address + 4 * words_of p.items) ps)
    (items_fit labels own address p.items fit.0) (pieces_fit labels (own + 1) (address + 4 * words_of p.items) ps fit.1)

-- parts

further : (address w n : ℕ) → address + 4 * w + 4 * n ≡ address + 4 * (w + n)
further address w n = omega arith

words_append : (xs ys : List Item) → words_of (xs ++ ys) ≡ words_of xs + words_of ys
words_append [] ys = omega arith
words_append (x ∷ xs) ys = let rest = words_append xs ys in omega arith

code_append : (labels : List (List ℕ)) (own address : ℕ) (xs ys : List Item) → items_code labels own address (xs ++ ys) ≡ items_code labels own address xs ++ items_code labels own (address + 4 * words_of xs) ys
code_append labels own address [] ys = ap (λ a. items_code labels own a ys) (let e : address ≡ address + 4 * 0 = omega arith in e)
code_append labels own address (x ∷ xs) ys =
    let next = address + 4 * width x in
    let back = items_code labels own (next + 4 * words_of xs) ys in
    ap (λ is. item_code labels own address x ++ is) (code_append labels own next xs ys)
    ∙ (sym (append_assoc (item_code labels own address x) (items_code labels own next xs) back)
    ∙ ap (λ a. items_code labels own address (x ∷ xs) ++ items_code labels own a ys) (further address (width x) (words_of xs)))

pub items_in_parts : ItemsInParts
items_in_parts labels own address xs ys =
    (code_append labels own address xs ys, words_append xs ys, items_length labels own address xs)

reach_moves : (labels : List (List ℕ)) (own from to : ℕ) (items : List Item) → from ≡ to → ItemsReach labels own from items → ItemsReach labels own to items
reach_moves labels own from to items e reach = subst (λ a. ItemsReach labels own a items) e reach

pub reach_in_parts : ReachInParts
reach_in_parts labels own address [] ys reach =
    (tt, reach_moves labels own address (address + 4 * 0) ys (omega arith) reach)
reach_in_parts labels own address (x ∷ xs) ys reach =
    let (front, back) = reach_in_parts labels own (address + 4 * width x) xs ys reach.1 in
    ((reach.0, front), reach_moves labels own _ _ ys (further address (width x) (words_of xs)) back)

pub parts_reach : PartsReach
parts_reach labels own address [] ys front back =
    reach_moves labels own (address + 4 * 0) address ys (omega arith) back
parts_reach labels own address (x ∷ xs) ys front back =
    (front.0, parts_reach labels own (address + 4 * width x) xs ys front.1 (reach_moves labels own _ _ ys (sym (further address (width x) (words_of xs))) back))
