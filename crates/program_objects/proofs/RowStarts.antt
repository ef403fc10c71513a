-- What the rows of linked pieces start is what their marks name; rows whose starts are in range pass the check of rows, and are few.
use Rattle.std.proofs.Common.{◌≡◌, ℕ, ◌+◌, ◌*◌, ◌%◌, ◌≤◌, ◌<◌, ◌==◌, ◌&&◌, Bool, true, nat_lt, nat_le, List, [], ◌∷◌, ◌++◌, length, map, drop, Option, option_map, refl, sym, ap, ◌∙◌, subst, arith}
use Rattle.std.specs.List.{filter_map, cons_option, list_all}
use Rattle.std.proofs.lemmas.Bool.{and_parts}
use Rattle.std.proofs.lemmas.Bool.Decides.{nat_tests}
use Rattle.std.proofs.lemmas.List.{map-append}
use Rattle.std.proofs.lemmas.List.Folds.{list_all-map}
use Rattle.assembler.specs.declared.piece.Item.{Item}
use Rattle.assembler.specs.declared.piece.Mark.{Mark}
use Rattle.assembler.specs.declared.piece.Mark.TheVariants.{Row as RowMark, Role as RoleMark}
use Rattle.assembler.specs.declared.piece.Piece.{Piece}
use Rattle.assembler.specs.Marks.{RowsRise}
use Rattle.assembler.specs.Placed.{words_of, labels_of, labels_from, labels_at, labels}
use Rattle.program_objects.specs.Held.{HoldsImage}
use Rattle.cov_base.specs.Lists.{Everywhere}
use Rattle.kernel_code.proofs.PieceLaws.{pieces_are_marked}
use Rattle.kernel_code.specs.Marked.{rows_marked}
use Rattle.kernel_code.specs.Pieces.{kernel_pieces, rows_of_pieces}
use Rattle.kernel_ir.specs.declared.kernel.Kernel.{Kernel}
use Rattle.kernel_ir.specs.Obligations.{Row, rows}
use Rattle.line_table.specs.declared.rows.Row.{Row as TableRow}
use Rattle.linker.proofs.Roles.{drop_splits, own_labels_are}
use Rattle.linker.proofs.Words.{address_there}
use Rattle.linker.specs.Laws.{AllMarked}
use Rattle.linker.specs.Linked.{row_of, rows_from, linked}
use Rattle.object_format.specs.Fields.{is_row}
use Rattle.object_format.specs.RowCheck.{start_of, is_in}
use Rattle.object_format.specs.Text.{text_end, is_in_text}
use Rattle.object_format.specs.declared.object.Object.{Object}
use Rattle.spelling.specs.Checks.{rising, rising_after}

-- the numbers of a start
abbrev pub named : Row → ℕ × ℕ
named r = (r.statement.0, r.instance.0)

starts_in_piece : (base : ℕ) (items : List Item) (from : ℕ) (marks : List Mark) → RowsRise from (length items) marks
    → map start_of (filter_map (row_of (labels_of base items)) marks) ≡ map named (rows_marked marks)
starts_in_piece base items from [] rise = refl
starts_in_piece base items from (RoleMark item kind decision condition value instance ∷ marks) rise = starts_in_piece base items from marks rise
starts_in_piece base items from (RowMark item statement instance ∷ marks) (low, within, rise) =
    subst
    (λ (o : Option ℕ). map start_of (cons_option (option_map (λ a. record { address = a; statement = statement; instance = instance }) o) (filter_map (row_of (labels_of base items)) marks))
    ≡ (statement.0, instance.0) ∷ map named (rows_marked marks))
    (sym (address_there base items item.0 within))
    (ap (λ (starts : List (ℕ × ℕ)). (statement.0, instance.0) ∷ starts) (starts_in_piece base items (item.0 + 1) marks rise))

starts_from : (all : List (List ℕ)) (own address : ℕ) (pieces : List Piece) → AllMarked pieces → drop own all ≡ labels_from address pieces
    → map start_of (rows_from all own pieces) ≡ map named (rows_of_pieces pieces)
starts_from all own address [] marked is_left = refl
starts_from all own address (p ∷ ps) marked is_left =
    let next = address + 4 * words_of p.items in
    let first = labels_of address p.items in
    let split = drop_splits all own first (labels_from next ps) is_left in
    let own_is = own_labels_are all own first (labels_from next ps) is_left in
    map-append start_of (filter_map (row_of (labels_at all own)) p.marks) (rows_from all (own + 1) ps)
    ∙ (ap (λ ls. map start_of (filter_map (row_of ls) p.marks) ++ map start_of (rows_from all (own + 1) ps)) own_is
    ∙ (ap (λ starts. starts ++ map start_of (rows_from all (own + 1) ps)) (starts_in_piece address p.items 0 p.marks marked.0.rows)
    ∙ (ap (λ starts. map named (rows_marked p.marks) ++ starts) (starts_from all (own + 1) next ps marked.1 split.1)
    ∙ sym (map-append named (rows_marked p.marks) (rows_of_pieces ps)))))

-- the rows of linked pieces start what the marks of the pieces name
pub starts_of_linked : (pieces : List Piece) (init : List ℕ) → AllMarked pieces → map start_of (linked pieces init).rows ≡ map named (rows_of_pieces pieces)
starts_of_linked pieces init marked = starts_from (labels pieces) 0 0x10000 pieces marked refl

-- those of an object that holds the image of a kernel start what the kernel's rows name
pub starts_held : (k : Kernel) (o : Object) → HoldsImage k o → map start_of o.rows ≡ map named (rows k)
starts_held k o holds =
    let marked = pieces_are_marked k in
    ap (map start_of) holds.rows ∙ (starts_of_linked (kernel_pieces k) k.library marked.marks ∙ ap (map named) marked.rows_named)

-- the numbers of a start are below the counts of statements and of instances
abbrev pub StartsWithin : (statements instances : ℕ) → ℕ × ℕ → Type 0
StartsWithin statements instances start = (start.0 < statements) × (start.1 < instances)

abbrev is_start : (statements instances : ℕ) → ℕ × ℕ → Bool
is_start statements instances start = nat_lt start.0 statements && nat_lt start.1 instances

both_hold : (a b : Bool) → a ≡ true → b ≡ true → (a && b) ≡ true
both_hold a b p q = rw (p, q) refl

below_holds : (a b : ℕ) → a < b → nat_lt a b ≡ true
below_holds a b less = grind (arith, nat_tests)

starts_pass : (statements instances : ℕ) (starts : List (ℕ × ℕ)) → Everywhere (StartsWithin statements instances) starts → list_all (is_start statements instances) starts ≡ true
starts_pass statements instances [] within = refl
starts_pass statements instances (start ∷ starts) within =
    both_hold (is_start statements instances start) (list_all (is_start statements instances) starts)
    (both_hold (nat_lt start.0 statements) (nat_lt start.1 instances) (below_holds start.0 statements within.0.0) (below_holds start.1 instances within.0.1))
    (starts_pass statements instances starts within.1)

-- rows whose starts are in range pass the check of rows
pub rows_in_range : (statements instances : ℕ) (lines : List TableRow) (starts : List (ℕ × ℕ)) → map start_of lines ≡ starts → Everywhere (StartsWithin statements instances) starts
    → list_all (is_row statements instances) lines ≡ true
rows_in_range statements instances lines starts are within =
    sym (list_all-map (is_start statements instances) start_of lines) ∙ (ap (list_all (is_start statements instances)) are ∙ starts_pass statements instances starts within)

-- how many there are: their addresses rise, within the text

abbrev rises : TableRow → TableRow → Bool
rises one next = nat_lt one.address next.address

inside : (text : List ℕ) (address : ℕ) → is_in_text text address ≡ true → address < text_end text
inside text address is = less (and_parts ((address % 4 == 0) && nat_le 0x10000 address) (nat_lt address (text_end text)) is).1
  where
    less : nat_lt address (text_end text) ≡ true → address < text_end text
    less test = grind (arith, nat_tests)

behind_one : (text : List ℕ) (one : TableRow) (lines : List TableRow) → list_all (is_in text) (one ∷ lines) ≡ true → rising_after rises one lines ≡ true
    → one.address + length (one ∷ lines) ≤ text_end text
behind_one text one [] within rise = omega (arith, inside text one.address (and_parts (is_in text one) true within).0)
behind_one text one (next ∷ lines) within rise =
    let parts = and_parts (rises one next) (rising_after rises next lines) rise in
    let later = behind_one text next lines (and_parts (is_in text one) (list_all (is_in text) (next ∷ lines)) within).1 parts.1 in
    omega (arith, before parts.0, later)
  where
    before : nat_lt one.address next.address ≡ true → one.address < next.address
    before test = grind (arith, nat_tests)

pub rows_few : (text : List ℕ) (lines : List TableRow) → list_all (is_in text) lines ≡ true → rising rises lines ≡ true → length lines ≤ text_end text
rows_few text [] within rise = omega arith
rows_few text (one ∷ lines) within rise = omega (arith, behind_one text one lines within rise)
