-- The roles of linked pieces: their addresses rise, and each is found at its item.
use Rattle.std.proofs.Common.{◌≡◌, ℕ, zero, suc, ◌+◌, ◌*◌, ◌%◌, ◌≤◌, ◌<◌, ◌==◌, List, [], ◌∷◌, ◌++◌, length, take, drop, find, slice_get, Option, Some, option_map, refl, sym, ap, ◌∙◌, subst, arith, true, false, Bool, if◌then◌else◌}
use Rattle.std.specs.List.{filter_map, cons_option}
use Rattle.line_table.specs.declared.roles.Role.{Role}
use Rattle.rv_semantics.specs.Layout.{text_start}
use Rattle.assembler.specs.declared.piece.Item.{Item}
use Rattle.assembler.specs.declared.piece.Mark.{Mark}
use Rattle.assembler.specs.declared.piece.Mark.TheVariants.{Row as RowMark, Role as RoleMark}
use Rattle.assembler.specs.declared.piece.Piece.{Piece}
use Rattle.assembler.specs.Placed.{words_of, words_in, labels_of, labels_from, labels_at, address_of, labels}
use Rattle.assembler.proofs.Labels.{label_follows, own_labels, lies_from}
use Rattle.linker.proofs.Rising.{RiseFrom, lower, rise_on, find_below, find_above, find_skips, find_stops, chosen}
use Rattle.linker.proofs.Words.{words_to, words_within, words_grow, words_before, words_differ, address_there}
use Rattle.linker.proofs.Roles.{drop_splits, own_labels_are}
use Rattle.assembler.specs.Marks.{is_branch_item, branch_places, role_places, AreMarks}
use Rattle.linker.specs.Linked.{role_of, roles_from}
use Rattle.linker.specs.Laws.{AllMarked, role_at, RolesAreFound}

-- places rise from one on up to another
abbrev PlacesRise : (from end : ℕ) → List ℕ → Type 0
PlacesRise from end [] = Unit {0}
PlacesRise from end (place ∷ places) = (from ≤ place) × (place < end) × PlacesRise (place + 1) end places

-- those that role marks name
abbrev RolesRise : (from end : ℕ) → List Mark → Type 0
RolesRise from end [] = Unit {0}
RolesRise from end (RowMark item statement instance ∷ marks) = RolesRise from end marks
RolesRise from end (RoleMark item kind decision condition value instance ∷ marks) =
    (from ≤ item.0) × (item.0 < end) × RolesRise (item.0 + 1) end marks

named_rise : (from end : ℕ) (marks : List Mark) → PlacesRise from end (role_places marks) → RolesRise from end marks
named_rise from end [] rise = tt
named_rise from end (RowMark item statement instance ∷ marks) rise = named_rise from end marks rise
named_rise from end (RoleMark item kind decision condition value instance ∷ marks) (above, below, rise) =
    (above, below, named_rise (item.0 + 1) end marks rise)

places_from : (from from' end : ℕ) (places : List ℕ) → from ≤ from' → PlacesRise from' end places → PlacesRise from end places
places_from from from' end [] less rise = tt
places_from from from' end (place ∷ places) less (above, below, rise) = (omega arith, below, rise)

branch_or_not : (b : Bool) (place end : ℕ) (places : List ℕ) → place < end → PlacesRise (place + 1) end places → PlacesRise place end (if b then place ∷ places else places)
branch_or_not true place end places within rise = (omega arith, within, rise)
branch_or_not false place end places within rise = places_from place (place + 1) end places (omega arith) rise

branches_rise : (place end : ℕ) (items : List Item) → place + length items ≡ end → PlacesRise place end (branch_places place items)
branches_rise place end [] is_end = tt
branches_rise place end (item ∷ items) is_end =
    branch_or_not (is_branch_item item) place end (branch_places (place + 1) items) (omega arith)
    (branches_rise (place + 1) end items (omega arith))

role_marks_rise : (p : Piece) → AreMarks p → RolesRise 0 (length p.items) p.marks
role_marks_rise p marked =
    named_rise 0 (length p.items) p.marks
    (subst (PlacesRise 0 (length p.items)) (sym marked.roles) (branches_rise 0 (length p.items) p.items (omega arith)))

abbrev role_key : Role → ℕ
role_key role = role.address

-- the roles of a piece

in_piece : (base : ℕ) (items : List Item) (p : ℕ) (marks : List Mark) → base % 4 ≡ 0 → RolesRise p (length items) marks
    → RiseFrom role_key (base + 4 * words_of (take p items)) (base + 4 * words_of items) (filter_map (role_of (labels_of base items)) marks)
in_piece base items p [] aligned rise = let within = words_within items p in omega arith
in_piece base items p (RowMark item statement instance ∷ marks) aligned rise = in_piece base items p marks aligned rise
in_piece base items p (RoleMark item kind decision condition value instance ∷ marks) aligned (from, within, rise) =
    let low = base + 4 * words_of (take p items) in
    let high = base + 4 * words_of items in
    let address = base + 4 * words_of (take item.0 items) in
    let next = base + 4 * words_of (take (item.0 + 1) items) in
    let rest = filter_map (role_of (labels_of base items)) marks in
    let before = words_to items p item.0 from in
    let grows = words_grow items item.0 within in
    let one : take (item.0 + 1) items ≡ take (suc item.0) items = ap (λ n. take n items) (let e : item.0 + 1 ≡ suc item.0 = omega arith in e) in
    let same = ap words_of one in
    let rise_rest = lower role_key (address + 1) next high rest (omega arith) (in_piece base items (item.0 + 1) marks aligned rise) in
    subst
    (λ (o : Option ℕ). RiseFrom role_key low high (cons_option (option_map (λ a. record { address = a; kind = kind; decision = decision; condition = condition; value = value; instance = instance }) o) rest))
    (sym (address_there base items item.0 within))
    (omega arith, omega arith, rise_rest)

found_in_piece : (base : ℕ) (items : List Item) (p j : ℕ) (marks : List Mark) → RolesRise p (length items) marks → j < length items
    → find (λ role. role.address == base + 4 * words_of (take j items)) (filter_map (role_of (labels_of base items)) marks)
    ≡ role_at (base + 4 * words_of (take j items)) j marks
found_in_piece base items p j [] rise in_j = refl
found_in_piece base items p j (RowMark item statement instance ∷ marks) rise in_j = found_in_piece base items p j marks rise in_j
found_in_piece base items p j (RoleMark item kind decision condition value instance ∷ marks) (from, within, rise) in_j =
    let address = base + 4 * words_of (take item.0 items) in
    let there = base + 4 * words_of (take j items) in
    let rest = filter_map (role_of (labels_of base items)) marks in
    let other : (item.0 ≡ j → ⊥) → address ≡ there → ⊥ = λ differ same. words_differ items item.0 j within in_j differ (omega arith) in
    subst
    (λ (o : Option ℕ). find (λ (role : Role). role.address == there) (cons_option (option_map (λ a. record { address = a; kind = kind; decision = decision; condition = condition; value = value; instance = instance }) o) rest) ≡ role_at there j (RoleMark item kind decision condition value instance ∷ marks))
    (sym (address_there base items item.0 within))
    (chosen {X = Role} address there item.0 j (λ a. record { address = a; kind = kind; decision = decision; condition = condition; value = value; instance = instance }) (find (λ role. role.address == there) rest) (role_at there j marks)
    (found_in_piece base items (item.0 + 1) j marks rise in_j)
    (λ e. ap (λ n. base + 4 * words_of (take n items)) e) other)

-- those of pieces

front_rises : (address : ℕ) (own_labels : List ℕ) (p : Piece) → address % 4 ≡ 0 → AreMarks p → own_labels ≡ labels_of address p.items
    → RiseFrom role_key address (address + 4 * words_of p.items) (filter_map (role_of own_labels) p.marks)
front_rises address own_labels p aligned marked own_is =
    let next = address + 4 * words_of p.items in
    subst (λ ls. RiseFrom role_key address next (filter_map (role_of ls) p.marks)) (sym own_is)
    (lower role_key address (address + 4 * 0) next (filter_map (role_of (labels_of address p.items)) p.marks) (omega arith)
    (in_piece address p.items 0 p.marks aligned (role_marks_rise p marked)))

pub roles_rise : (all : List (List ℕ)) (own address : ℕ) (pieces : List Piece) → address % 4 ≡ 0 → AllMarked pieces → drop own all ≡ labels_from address pieces
    → RiseFrom role_key address (address + 4 * words_in pieces) (roles_from all own pieces)
roles_rise all own address [] aligned marked is_left = omega arith
roles_rise all own address (p ∷ ps) aligned marked is_left =
    let next = address + 4 * words_of p.items in
    let split = drop_splits all own (labels_of address p.items) (labels_from next ps) is_left in
    let own_is = own_labels_are all own (labels_of address p.items) (labels_from next ps) is_left in
    let back = roles_rise all (own + 1) next ps (omega arith) marked.1 split.1 in
    let end : next + 4 * words_in ps ≡ address + 4 * words_in (p ∷ ps) = omega arith in
    subst (λ h. RiseFrom role_key address h (roles_from all own (p ∷ ps))) end
    (rise_on role_key address next (next + 4 * words_in ps) (filter_map (role_of (labels_at all own)) p.marks) (roles_from all (own + 1) ps)
    (front_rises address (labels_at all own) p aligned marked.0 own_is) back)

found_from : (all : List (List ℕ)) (own address : ℕ) (pieces : List Piece) (k : ℕ) (piece : Piece) (j there : ℕ) → address % 4 ≡ 0 → AllMarked pieces → drop own all ≡ labels_from address pieces
    → slice_get pieces k ≡ Some piece → j < length piece.items → address_of (labels_from address pieces) k j ≡ there
    → find (λ role. role.address == there) (roles_from all own pieces) ≡ role_at there j piece.marks
found_from all own address [] k piece j there aligned marked is_left is_piece in_j is_there = absurd (let no : ⊥ = cc in no)
found_from all own address (p ∷ ps) zero piece j there aligned marked is_left is_piece in_j is_there =
    let same : p ≡ piece = cc in
    let next = address + 4 * words_of p.items in
    let first = labels_of address p.items in
    let split = drop_splits all own first (labels_from next ps) is_left in
    let own_is = own_labels_are all own first (labels_from next ps) is_left in
    let in_p : j < length p.items = subst (λ (q : Piece). j < length q.items) (sym same) in_j in
    let here = address + 4 * words_of (take j p.items) in
    let is_here : here ≡ there = sym (label_follows address p.items j (omega arith)).1 ∙ is_there in
    let before = words_before p.items j in_p in
    let front = filter_map (role_of (labels_at all own)) p.marks in
    let back = roles_from all (own + 1) ps in
    let none = find_below role_key next (next + 4 * words_in ps) here back (roles_rise all (own + 1) next ps (omega arith) marked.1 split.1) (omega arith) in
    let found : find (λ role. role.address == here) (front ++ back) ≡ role_at here j p.marks =
    find_stops (λ role. role.address == here) front back none
    ∙ (ap (λ ls. find (λ role. role.address == here) (filter_map (role_of ls) p.marks)) own_is
    ∙ found_in_piece address p.items 0 j p.marks (role_marks_rise p marked.0) in_p) in
    subst (λ (q : Piece). find (λ role. role.address == there) (front ++ back) ≡ role_at there j q.marks) same
    (subst (λ n. find (λ role. role.address == n) (front ++ back) ≡ role_at n j p.marks) is_here found)
found_from all own address (p ∷ ps) (suc k) piece j there aligned marked is_left is_piece in_j is_there =
    let next = address + 4 * words_of p.items in
    let first = labels_of address p.items in
    let split = drop_splits all own first (labels_from next ps) is_left in
    let own_is = own_labels_are all own first (labels_from next ps) is_left in
    let base = address_of (labels_from next ps) k 0 in
    let has : j < length (labels_at (labels_from next ps) k) =
    subst (λ ls. j < length ls) (sym (own_labels next ps k piece base is_piece refl)) (label_follows base piece.items j (omega arith)).0 in
    let lies = lies_from next ps k j (omega arith) has in
    let behind : next ≤ there = subst (λ n. next ≤ n) is_there lies.1 in
    let front = filter_map (role_of (labels_at all own)) p.marks in
    let back = roles_from all (own + 1) ps in
    let none = find_above role_key address next there front (front_rises address (labels_at all own) p aligned marked.0 own_is) behind in
    find_skips (λ role. role.address == there) front back none
    ∙ found_from all (own + 1) next ps k piece j there (omega arith) marked.1 split.1 is_piece in_j is_there

pub roles_are_found : RolesAreFound
roles_are_found pieces init k piece j marked is_piece in_j =
    found_from (labels pieces) 0 text_start pieces k piece j (address_of (labels pieces) k j) refl marked refl is_piece in_j refl
