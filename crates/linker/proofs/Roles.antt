-- The roles of linked pieces are those of the conditional branches of their text.
use Rattle.std.proofs.Common.{◌≡◌, ℕ, zero, suc, ◌+◌, ◌*◌, Bool, true, false, List, [], ◌∷◌, ◌++◌, length, map, drop, unwrap_or, slice_get, Option, Some, None, option_map, refl, sym, ap, ◌∙◌, arith, if◌then◌else◌}
use Rattle.std.specs.List.{AllByRecursion, filter_map, cons_option}
use Rattle.std.proofs.lemmas.List.{map-append, length-map}
use Rattle.line_table.specs.declared.roles.Role.{Role}
use Rattle.rv_isa.specs.declared.instr.Instr.{Instr}
use Rattle.rv_isa.specs.declared.instr.Instr.TheVariants.{Branch, Jal}
use Rattle.rv_isa.specs.Rows.{word, IsInstr}
use Rattle.rv_isa.specs.Decoding.{instr_of}
use Rattle.rv_isa.specs.Control.{is_branch, holds}
use Rattle.rv_isa.proofs.Laws.{again}
use Rattle.object_format.specs.RoleCheck.{branches_from}
use Rattle.placed_code.specs.Reach.{branch_halves, jump_halves}
use Rattle.assembler.specs.declared.piece.Item.{Item}
use Rattle.assembler.specs.declared.piece.Item.TheVariants.{Plain, Branch as BranchTo, Jump, Call}
use Rattle.assembler.specs.declared.piece.Mark.{Mark}
use Rattle.assembler.specs.declared.piece.Mark.TheVariants.{Row as RowMark, Role as RoleMark}
use Rattle.assembler.specs.declared.piece.Piece.{Piece}
use Rattle.assembler.specs.Placed.{width, words_of, labels_of, labels_from, labels_at, address_of, item_code, items_code, pieces_code, labels}
use Rattle.assembler.specs.Reach.{IsItem, AreItems}
use Rattle.assembler.specs.Marks.{is_branch_item, branch_places, role_places}
use Rattle.assembler.proofs.Codes.{item_length, items_length}
use Rattle.linker.specs.Linked.{role_of, roles_from}
use Rattle.linker.specs.Laws.{AllMarked, RolesAreBranches}

-- a list from a place on

pub drop_splits : {X : Type 0} (xs : List X) (n : ℕ) (x : X) (rest : List X) → drop n xs ≡ x ∷ rest → (slice_get xs n ≡ Some x) × (drop (n + 1) xs ≡ rest)
drop_splits xs zero x rest e = (ap (λ l. slice_get l 0) e, ap (drop 1) e)
drop_splits [] (suc n) x rest e = absurd (let no : ⊥ = cc in no)
drop_splits (y ∷ ys) (suc n) x rest e =
    let (here, behind) = drop_splits ys n x rest e in
    let next : suc n + 1 ≡ suc (n + 1) = omega arith in
    (here, ap (λ m. drop m (y ∷ ys)) next ∙ behind)

pub own_labels_are : (all : List (List ℕ)) (own : ℕ) (first : List ℕ) (rest : List (List ℕ)) → drop own all ≡ first ∷ rest → labels_at all own ≡ first
own_labels_are all own first rest e = ap (λ o. unwrap_or o []) (drop_splits all own first rest e).0

-- the branches of words

word_test : (i : Instr) → IsInstr i → holds is_branch (instr_of (word i)) ≡ is_branch i
word_test i fits = ap (holds is_branch) (again i fits)

if_append : (b : Bool) (a : ℕ) (r s : List ℕ) → (if b then a ∷ (r ++ s) else (r ++ s)) ≡ (if b then a ∷ r else r) ++ s
if_append true a r s = refl
if_append false a r s = refl

branches_append : (address : ℕ) (xs ys : List ℕ) → branches_from address (xs ++ ys) ≡ branches_from address xs ++ branches_from (address + 4 * length xs) ys
branches_append address [] ys = ap (λ a. branches_from a ys) (let e : address ≡ address + 4 * 0 = omega arith in e)
branches_append address (x ∷ xs) ys =
    let b = holds is_branch (instr_of x) in
    let next : address + 4 + 4 * length xs ≡ address + 4 * length (x ∷ xs) = omega arith in
    ap (λ r. if b then address ∷ r else r) (branches_append (address + 4) xs ys)
    ∙ (if_append b address (branches_from (address + 4) xs) (branches_from (address + 4 + 4 * length xs) ys)
    ∙ ap (λ a. branches_from address (x ∷ xs) ++ branches_from a ys) next)

-- the branches of items

one_branch : (address : ℕ) (i : Instr) → IsInstr i → branches_from address (word i ∷ []) ≡ (if is_branch i then address ∷ [] else [])
one_branch address i fits = ap (λ b. if b then address ∷ [] else []) (word_test i fits)

item_branches : (all : List (List ℕ)) (own address : ℕ) (item : Item) → IsItem item → branches_from address (map word (item_code all own address item)) ≡ (if is_branch_item item then address ∷ [] else [])
item_branches all own address (Plain i) fits = one_branch address i fits
item_branches all own address (BranchTo op rs1 rs2 to) (in_rs1, in_rs2) = one_branch address (Branch op rs1 rs2 (branch_halves address (address_of all own to.0))) (in_rs1, in_rs2, omega arith)
item_branches all own address (Jump rd to) fits = one_branch address (Jal rd (jump_halves address (address_of all own to.0))) (fits, omega arith)
item_branches all own address (Call rd piece to) fits = one_branch address (Jal rd (jump_halves address (address_of all piece.0 to.0))) (fits, omega arith)

filter_if : (g : ℕ → Option ℕ) (b : Bool) (place address : ℕ) (places : List ℕ) → g place ≡ Some address → filter_map g (if b then place ∷ places else places) ≡ (if b then address ∷ filter_map g places else filter_map g places)
filter_if g true place address places e = ap (λ o. cons_option o (filter_map g places)) e
filter_if g false place address places e = refl

if_first : (b : Bool) (a : ℕ) (r : List ℕ) → (if b then a ∷ [] else []) ++ r ≡ (if b then a ∷ r else r)
if_first true a r = refl
if_first false a r = refl

words_behind : (all : List (List ℕ)) (own address : ℕ) (item : Item) → address + 4 * length (map word (item_code all own address item)) ≡ address + 4 * width item
words_behind all own address item = ap (λ n. address + 4 * n) (length-map (item_code all own address item) word ∙ item_length all own address item)

items_branches : (all : List (List ℕ)) (own address : ℕ) (items : List Item) (own_labels : List ℕ) (place : ℕ) → AllByRecursion IsItem items → drop place own_labels ≡ labels_of address items
    → filter_map (slice_get own_labels) (branch_places place items) ≡ branches_from address (map word (items_code all own address items))
items_branches all own address [] own_labels place fit is_left = refl
items_branches all own address (item ∷ items) own_labels place fit is_left =
    let next = address + 4 * width item in
    let b = is_branch_item item in
    let front = item_code all own address item in
    let back = items_code all own next items in
    let split = drop_splits own_labels place address (labels_of next items) is_left in
    let rest = items_branches all own next items own_labels (place + 1) fit.1 split.1 in
    let later = branches_from next (map word back) in
    filter_if (slice_get own_labels) b place address (branch_places (place + 1) items) split.0
    ∙ (ap (λ r. if b then address ∷ r else r) rest
    ∙ (sym (if_first b address later)
    ∙ ((λ i. sym (item_branches all own address item fit.0) i ++ branches_from (sym (words_behind all own address item) i) (map word back))
    ∙ (sym (branches_append address (map word front) (map word back))
    ∙ ap (branches_from address) (sym (map-append word front back))))))

-- the roles of marks

map_option : (f : ℕ → Role) (o : Option ℕ) (roles : List Role) → ((a : ℕ) → (f a).address ≡ a) → map (λ role. role.address) (cons_option (option_map f o) roles) ≡ cons_option o (map (λ role. role.address) roles)
map_option f None roles is_address = refl
map_option f (Some a) roles is_address = ap (λ x. x ∷ map (λ role. role.address) roles) (is_address a)

role_addresses : (own_labels : List ℕ) (marks : List Mark) → map (λ role. role.address) (filter_map (role_of own_labels) marks) ≡ filter_map (slice_get own_labels) (role_places marks)
role_addresses own_labels [] = refl
role_addresses own_labels (RowMark item statement instance ∷ marks) = role_addresses own_labels marks
role_addresses own_labels (RoleMark item kind decision condition value instance ∷ marks) =
    map_option
    (λ address. record { address = address; kind = kind; decision = decision; condition = condition; value = value; instance = instance })
    (slice_get own_labels item.0) (filter_map (role_of own_labels) marks) (λ a. refl)
    ∙ ap (cons_option (slice_get own_labels item.0)) (role_addresses own_labels marks)

-- those of pieces

piece_words : (all : List (List ℕ)) (own address : ℕ) (items : List Item) → address + 4 * length (map word (items_code all own address items)) ≡ address + 4 * words_of items
piece_words all own address items = ap (λ n. address + 4 * n) (length-map (items_code all own address items) word ∙ items_length all own address items)

pieces_branches : (all : List (List ℕ)) (own address : ℕ) (pieces : List Piece) → AllMarked pieces → AreItems pieces → drop own all ≡ labels_from address pieces
    → map (λ role. role.address) (roles_from all own pieces) ≡ branches_from address (map word (pieces_code all own address pieces))
pieces_branches all own address [] marked fit is_left = refl
pieces_branches all own address (p ∷ ps) marked fit is_left =
    let next = address + 4 * words_of p.items in
    let front = items_code all own address p.items in
    let back = pieces_code all (own + 1) next ps in
    let first = labels_of address p.items in
    let split = drop_splits all own first (labels_from next ps) is_left in
    let rest = pieces_branches all (own + 1) next ps marked.1 fit.1 split.1 in
    let own_is = own_labels_are all own first (labels_from next ps) is_left in
    map-append (λ (role : Role). role.address) (filter_map (role_of (labels_at all own)) p.marks) (roles_from all (own + 1) ps)
    ∙ ((λ i. (role_addresses (labels_at all own) p.marks ∙ ((λ j. filter_map (slice_get (own_is j)) (marked.0.roles j))
    ∙ items_branches all own address p.items first 0 fit.0 refl)) i
    ++ rest i)
    ∙ ((λ i. branches_from address (map word front) ++ branches_from (sym (piece_words all own address p.items) i) (map word back))
    ∙ (sym (branches_append address (map word front) (map word back))
    ∙ ap (branches_from address) (sym (map-append word front back)))))

pub roles_are_branches : RolesAreBranches
roles_are_branches pieces init marked fit = pieces_branches (labels pieces) 0 0x10000 pieces marked fit refl
