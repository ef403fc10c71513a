-- The rows of linked pieces: they are at instructions, their addresses rise, and each is found at its item.
use Rattle.std.proofs.Common.{◌≡◌, ℕ, zero, suc, ◌+◌, ◌*◌, ◌%◌, ◌≤◌, ◌<◌, ◌==◌, List, [], ◌∷◌, ◌++◌, length, map, take, drop, find, slice_get, Option, Some, option_map, refl, sym, ap, ◌∙◌, subst, arith, ◌&&◌, nat_lt, nat_le, Bool, true}
use Rattle.std.specs.List.{filter_map, cons_option, list_all}
use Rattle.line_table.specs.declared.rows.Row.{Row}
use Rattle.rv_semantics.specs.Layout.{text_start}
use Rattle.assembler.specs.declared.piece.Item.{Item}
use Rattle.assembler.specs.declared.piece.Mark.{Mark}
use Rattle.assembler.specs.declared.piece.Mark.TheVariants.{Row as RowMark, Role as RoleMark}
use Rattle.assembler.specs.declared.piece.Piece.{Piece}
use Rattle.assembler.specs.Placed.{words_of, words_in, labels_of, labels_from, labels_at, address_of, labels, code}
use Rattle.assembler.proofs.Labels.{label_follows, own_labels, lies_from}
use Rattle.linker.proofs.Rising.{RiseFrom, lower, rise_on, below_high, find_below, find_above, find_skips, find_stops, chosen}
use Rattle.linker.proofs.Words.{words_to, words_within, words_grow, words_before, words_differ, address_there}
use Rattle.linker.proofs.Roles.{drop_splits, own_labels_are}
use Rattle.std.proofs.lemmas.Bool.Decides.{nat_tests}
use Rattle.rv_isa.specs.Rows.{word}
use Rattle.spelling.specs.Checks.{rising, rising_after}
use Rattle.object_format.specs.RowCheck.{is_in}
use Rattle.assembler.specs.Marks.{RowsRise, AreMarks}
use Rattle.linker.specs.Linked.{row_of, rows_from}
use Rattle.linker.specs.Laws.{AllMarked, RowsAreInOrder, row_at, RowsAreFound}
use Rattle.linker.proofs.Places.{text_words}

row_marks_rise : (p : Piece) → AreMarks p → RowsRise 0 (length p.items) p.marks
row_marks_rise p marked = marked.rows

abbrev row_key : Row → ℕ
row_key row = row.address

-- the rows of a piece

in_piece : (base : ℕ) (items : List Item) (p : ℕ) (marks : List Mark) → base % 4 ≡ 0 → RowsRise p (length items) marks
    → RiseFrom row_key (base + 4 * words_of (take p items)) (base + 4 * words_of items) (filter_map (row_of (labels_of base items)) marks)
in_piece base items p [] aligned rise = let within = words_within items p in omega arith
in_piece base items p (RoleMark item kind decision condition value instance ∷ marks) aligned rise = in_piece base items p marks aligned rise
in_piece base items p (RowMark item statement instance ∷ marks) aligned (from, within, rise) =
    let low = base + 4 * words_of (take p items) in
    let high = base + 4 * words_of items in
    let address = base + 4 * words_of (take item.0 items) in
    let next = base + 4 * words_of (take (item.0 + 1) items) in
    let rest = filter_map (row_of (labels_of base items)) marks in
    let before = words_to items p item.0 from in
    let grows = words_grow items item.0 within in
    let one : take (item.0 + 1) items ≡ take (suc item.0) items = ap (λ n. take n items) (let e : item.0 + 1 ≡ suc item.0 = omega arith in e) in
    let same = ap words_of one in
    let rise_rest = lower row_key (address + 1) next high rest (omega arith) (in_piece base items (item.0 + 1) marks aligned rise) in
    subst
    (λ (o : Option ℕ). RiseFrom row_key low high (cons_option (option_map (λ a. record { address = a; statement = statement; instance = instance }) o) rest))
    (sym (address_there base items item.0 within))
    (omega arith, omega arith, rise_rest)

found_in_piece : (base : ℕ) (items : List Item) (p j : ℕ) (marks : List Mark) → RowsRise p (length items) marks → j < length items
    → find (λ row. row.address == base + 4 * words_of (take j items)) (filter_map (row_of (labels_of base items)) marks)
    ≡ row_at (base + 4 * words_of (take j items)) j marks
found_in_piece base items p j [] rise in_j = refl
found_in_piece base items p j (RoleMark item kind decision condition value instance ∷ marks) rise in_j = found_in_piece base items p j marks rise in_j
found_in_piece base items p j (RowMark item statement instance ∷ marks) (from, within, rise) in_j =
    let address = base + 4 * words_of (take item.0 items) in
    let there = base + 4 * words_of (take j items) in
    let rest = filter_map (row_of (labels_of base items)) marks in
    let other : (item.0 ≡ j → ⊥) → address ≡ there → ⊥ = λ differ same. words_differ items item.0 j within in_j differ (omega arith) in
    subst
    (λ (o : Option ℕ). find (λ (row : Row). row.address == there) (cons_option (option_map (λ a. record { address = a; statement = statement; instance = instance }) o) rest) ≡ row_at there j (RowMark item statement instance ∷ marks))
    (sym (address_there base items item.0 within))
    (chosen {X = Row} address there item.0 j (λ a. record { address = a; statement = statement; instance = instance }) (find (λ row. row.address == there) rest) (row_at there j marks)
    (found_in_piece base items (item.0 + 1) j marks rise in_j)
    (λ e. ap (λ n. base + 4 * words_of (take n items)) e) other)

-- those of pieces

front_rises : (address : ℕ) (own_labels : List ℕ) (p : Piece) → address % 4 ≡ 0 → AreMarks p → own_labels ≡ labels_of address p.items
    → RiseFrom row_key address (address + 4 * words_of p.items) (filter_map (row_of own_labels) p.marks)
front_rises address own_labels p aligned marked own_is =
    let next = address + 4 * words_of p.items in
    subst (λ ls. RiseFrom row_key address next (filter_map (row_of ls) p.marks)) (sym own_is)
    (lower row_key address (address + 4 * 0) next (filter_map (row_of (labels_of address p.items)) p.marks) (omega arith)
    (in_piece address p.items 0 p.marks aligned (row_marks_rise p marked)))

pub rows_rise : (all : List (List ℕ)) (own address : ℕ) (pieces : List Piece) → address % 4 ≡ 0 → AllMarked pieces → drop own all ≡ labels_from address pieces
    → RiseFrom row_key address (address + 4 * words_in pieces) (rows_from all own pieces)
rows_rise all own address [] aligned marked is_left = omega arith
rows_rise all own address (p ∷ ps) aligned marked is_left =
    let next = address + 4 * words_of p.items in
    let split = drop_splits all own (labels_of address p.items) (labels_from next ps) is_left in
    let own_is = own_labels_are all own (labels_of address p.items) (labels_from next ps) is_left in
    let back = rows_rise all (own + 1) next ps (omega arith) marked.1 split.1 in
    let end : next + 4 * words_in ps ≡ address + 4 * words_in (p ∷ ps) = omega arith in
    subst (λ h. RiseFrom row_key address h (rows_from all own (p ∷ ps))) end
    (rise_on row_key address next (next + 4 * words_in ps) (filter_map (row_of (labels_at all own)) p.marks) (rows_from all (own + 1) ps)
    (front_rises address (labels_at all own) p aligned marked.0 own_is) back)

found_from : (all : List (List ℕ)) (own address : ℕ) (pieces : List Piece) (k : ℕ) (piece : Piece) (j there : ℕ) → address % 4 ≡ 0 → AllMarked pieces → drop own all ≡ labels_from address pieces
    → slice_get pieces k ≡ Some piece → j < length piece.items → address_of (labels_from address pieces) k j ≡ there
    → find (λ row. row.address == there) (rows_from all own pieces) ≡ row_at there j piece.marks
found_from all own address [] k piece j there aligned marked is_left is_piece in_j is_there = absurd (let no : ⊥ = cc in no)
found_from all own address (p ∷ ps) zero piece j there aligned marked is_left is_piece in_j is_there =
    let same : p ≡ piece = cc in
    let next = address + 4 * words_of p.items in
    let first = labels_of address p.items in
    let split = drop_splits all own first (labels_from next ps) is_left in
    let own_is = own_labels_are all own first (labels_from next ps) is_left in
    let in_p : j < length p.items = subst (λ (q : Piece). j < length q.items) (sym same) in_j in
    let here = address + 4 * words_of (take j p.items) in
    let is_here : here ≡ there = sym (label_follows address p.items j (omega arith)).1 ∙ is_there in
    let before = words_before p.items j in_p in
    let front = filter_map (row_of (labels_at all own)) p.marks in
    let back = rows_from all (own + 1) ps in
    let none = find_below row_key next (next + 4 * words_in ps) here back (rows_rise all (own + 1) next ps (omega arith) marked.1 split.1) (omega arith) in
    let found : find (λ row. row.address == here) (front ++ back) ≡ row_at here j p.marks =
    find_stops (λ row. row.address == here) front back none
    ∙ (ap (λ ls. find (λ row. row.address == here) (filter_map (row_of ls) p.marks)) own_is
    ∙ found_in_piece address p.items 0 j p.marks (row_marks_rise p marked.0) in_p) in
    subst (λ (q : Piece). find (λ row. row.address == there) (front ++ back) ≡ row_at there j q.marks) same
    (subst (λ n. find (λ row. row.address == n) (front ++ back) ≡ row_at n j p.marks) is_here found)
found_from all own address (p ∷ ps) (suc k) piece j there aligned marked is_left is_piece in_j is_there =
    let next = address + 4 * words_of p.items in
    let first = labels_of address p.items in
    let split = drop_splits all own first (labels_from next ps) is_left in
    let own_is = own_labels_are all own first (labels_from next ps) is_left in
    let base = address_of (labels_from next ps) k 0 in
    let has : j < length (labels_at (labels_from next ps) k) =
    subst (λ ls. j < length ls) (sym (own_labels next ps k piece base is_piece refl)) (label_follows base piece.items j (omega arith)).0 in
    let lies = lies_from next ps k j (omega arith) has in
    let behind : next ≤ there = subst (λ n. next ≤ n) is_there lies.1 in
    let front = filter_map (row_of (labels_at all own)) p.marks in
    let back = rows_from all (own + 1) ps in
    let none = find_above row_key address next there front (front_rises address (labels_at all own) p aligned marked.0 own_is) behind in
    find_skips (λ row. row.address == there) front back none
    ∙ found_from all (own + 1) next ps k piece j there (omega arith) marked.1 split.1 is_piece in_j is_there

pub rows_are_found : RowsAreFound
rows_are_found pieces init k piece j marked is_piece in_j =
    found_from (labels pieces) 0 text_start pieces k piece j (address_of (labels pieces) k j) refl marked refl is_piece in_j refl

-- the tests of an object

both_hold : (a b : Bool) → a ≡ true → b ≡ true → (a && b) ≡ true
both_hold a b p q = rw (p, q) refl

abbrev is_before : Row → Row → Bool
is_before one next = nat_lt one.address next.address

less_holds : (a b : ℕ) → a + 1 ≤ b → nat_lt a b ≡ true
less_holds a b less = grind (arith, nat_tests)

rise_after : (high : ℕ) (row : Row) (rows : List Row) → RiseFrom row_key (row.address + 1) high rows → rising_after is_before row rows ≡ true
rise_after high row [] rise = refl
rise_after high row (next ∷ rows) (above, multiple, rise) =
    both_hold (is_before row next) (rising_after is_before next rows)
    (less_holds row.address next.address above) (rise_after high next rows rise)

rise_all : (low high : ℕ) (rows : List Row) → RiseFrom row_key low high rows → rising is_before rows ≡ true
rise_all low high [] rise = refl
rise_all low high (row ∷ rows) (above, multiple, rise) = rise_after high row rows rise

inside : (text : List ℕ) (address : ℕ) → address % 4 ≡ 0 → text_start ≤ address → address < text_start + 4 * length text → ((address % 4 == 0) && nat_le 0x10000 address && nat_lt address (0x10000 + 4 * length text)) ≡ true
inside text address multiple behind before = grind (arith, nat_tests)

all_in : (text : List ℕ) (low : ℕ) (rows : List Row) → text_start ≤ low → RiseFrom row_key low (text_start + 4 * length text) rows → list_all (is_in text) rows ≡ true
all_in text low [] behind rise = refl
all_in text low (row ∷ rows) behind (above, multiple, rise) =
    let before = below_high row_key (row.address + 1) (text_start + 4 * length text) rows rise in
    both_hold (is_in text row) (list_all (is_in text) rows)
    (inside text row.address multiple (omega arith) (omega arith))
    (all_in text (row.address + 1) rows (omega arith) rise)

pub rows_are_in_order : RowsAreInOrder
rows_are_in_order pieces init marked =
    let rows = rows_from (labels pieces) 0 pieces in
    let text = map word (code pieces) in
    let rise = rows_rise (labels pieces) 0 text_start pieces refl marked refl in
    let words : words_in pieces ≡ length text = sym (text_words pieces) in (
      all_in text text_start rows (omega arith) (subst (λ n. RiseFrom row_key text_start (text_start + 4 * n) rows) words rise),
      rise_all text_start (text_start + 4 * words_in pieces) rows rise,
    )
