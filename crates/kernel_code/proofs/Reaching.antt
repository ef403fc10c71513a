-- Pieces whose lines fit are in reach of their labels once they are placed.
use Rattle.std.proofs.Common.{◌≡◌, ℕ, zero, suc, ◌+◌, ◌*◌, ◌^◌, ◌≤◌, ◌<◌, true, List, [], ◌∷◌, length, take, get_or, slice_get, Some, refl, sym, ap, subst, ◌∙◌, arith}
use Rattle.std.proofs.lemmas.List.{length-map, length-take-le}
use Rattle.std.proofs.lemmas.Option.{none-some, cond_some, slice_get-get_or}
use Rattle.std.specs.List.{AllByRecursion}
use Rattle.rv_semantics.specs.Layout.{text_start}
use Rattle.placed_code.specs.Reach.{BranchReaches, JumpReaches}
use Rattle.assembler.specs.declared.piece.Item.{Item}
use Rattle.assembler.specs.declared.piece.Item.TheVariants.{Plain, Branch as BranchTo, Jump, Call}
use Rattle.assembler.specs.declared.piece.Piece.{Piece}
use Rattle.assembler.specs.Placed.{width, words_of, words_in, labels_from, address_of, labels}
use Rattle.assembler.specs.Reach.{HasLabel, ItemReaches, ItemsReach, PiecesReach}
use Rattle.assembler.proofs.Labels.{first_label, first_begins, labels_follow, labels_lie}
use Rattle.kernel_code.specs.Line.{Line, items_of}
use Rattle.kernel_code.specs.Pieces.{CanBePlaced}
use Rattle.kernel_code.proofs.Fitting.{ItemFits, LinesFit}
use Rattle.kernel_code.proofs.Stands.{width_is_one, one_word_each}

-- a piece of lines that fit it, among so many
pub record PieceFits (count : ℕ) (piece : Piece) : Type 0 where
  pub lines : List Line
  pub items : piece.items ≡ items_of lines
  pub fits : LinesFit count (length lines) 0 lines

-- a piece begins behind the one before
next_begins : (address : ℕ) (pieces : List Piece) (k : ℕ) (piece next : Piece) → slice_get pieces k ≡ Some piece → slice_get pieces (suc k) ≡ Some next
    → address_of (labels_from address pieces) (suc k) 0 ≡ address_of (labels_from address pieces) k 0 + 4 * words_of piece.items
next_begins address [] k piece next is is_next = absurd (none-some piece is)
next_begins address (x ∷ []) zero piece next is is_next = absurd (none-some next is_next)
next_begins address (x ∷ (y ∷ rest)) zero piece next is is_next =
    first_label (address + 4 * words_of x.items) y.items
    ∙ (ap (λ (z : Piece). address + 4 * words_of z.items) (cond_some true x piece is).1
    ∙ ap (λ a. a + 4 * words_of piece.items) (sym (first_label address x.items)))
next_begins address (x ∷ rest) (suc k) piece next is is_next = next_begins (address + 4 * words_of x.items) rest k piece next is is_next

module _ (pieces : List Piece) (small : words_in pieces < 2 ^ 18) where
  abbrev start_of : ℕ → ℕ
  start_of own = address_of (labels pieces) own 0

  label_is : (own : ℕ) (piece : Piece) (j : ℕ) → slice_get pieces own ≡ Some piece → j ≤ length piece.items
      → HasLabel (labels pieces) own j × (address_of (labels pieces) own j ≡ start_of own + 4 * j)
  label_is own piece j is_piece within =
      let (has, is) = labels_follow pieces own piece j is_piece within in
      let words : words_of (take j piece.items) ≡ j = one_word_each (take j piece.items) ∙ length-take-le j piece.items within in
      (has, is ∙ ap (λ n. start_of own + 4 * n) words)

  label_lies : (own j : ℕ) → HasLabel (labels pieces) own j → (text_start ≤ address_of (labels pieces) own j) × (address_of (labels pieces) own j < text_start + 2 ^ 20)
  label_lies own j has = let (multiple, behind, before) = labels_lie pieces own j has in (behind, omega arith)

  jump_reaches : (from to : ℕ) → text_start ≤ from → from < text_start + 2 ^ 20 → text_start ≤ to → to < text_start + 2 ^ 20 → JumpReaches from to
  jump_reaches from to a b c d = (omega arith, omega arith)

  branch_reaches : (start place to : ℕ) → place ≤ to → to ≤ place + 100 → BranchReaches (start + 4 * place) (start + 4 * to)
  branch_reaches start place to behind near = (omega arith, omega arith)

  item_reaches : (own : ℕ) (piece : Piece) (place : ℕ) (item : Item) → slice_get pieces own ≡ Some piece → place ≤ length piece.items
      → ItemFits (length pieces) (length piece.items) place item → ItemReaches (labels pieces) own (start_of own + 4 * place) item
  item_reaches own piece place (Plain i) is_piece within fits = tt
  item_reaches own piece place (BranchTo op rs1 rs2 to) is_piece within (behind, near, inside) =
      let (has, is) = label_is own piece to.0 is_piece inside in
      (has, subst (λ a. BranchReaches (start_of own + 4 * place) a) (sym is) (branch_reaches (start_of own) place to.0 behind near))
  item_reaches own piece place (Jump rd to) is_piece within inside =
      let (has, is) = label_is own piece to.0 is_piece inside in
      let (here, at) = label_is own piece place is_piece within in
      let (low, high) = label_lies own place here in
      let (to_low, to_high) = label_lies own to.0 has in
      (has, subst (λ a. JumpReaches a (address_of (labels pieces) own to.0)) at (jump_reaches (address_of (labels pieces) own place) (address_of (labels pieces) own to.0) low high to_low to_high))
  item_reaches own piece place (Call rd called to) is_piece within (known, first) =
      let (has, is) = label_is called.0 (get_or pieces called.0 piece) 0 (slice_get-get_or pieces called.0 piece known) (omega arith) in
      let (here, at) = label_is own piece place is_piece within in
      let (low, high) = label_lies own place here in
      let (to_low, to_high) = label_lies called.0 0 has in
      subst (λ n. HasLabel (labels pieces) called.0 n × JumpReaches (start_of own + 4 * place) (address_of (labels pieces) called.0 n)) (sym first)
      (has, subst (λ a. JumpReaches a (start_of called.0)) at (jump_reaches (address_of (labels pieces) own place) (start_of called.0) low high to_low to_high))

  lines_reach : (own : ℕ) (piece : Piece) (place : ℕ) (lines : List Line) → slice_get pieces own ≡ Some piece → place + length lines ≤ length piece.items
      → LinesFit (length pieces) (length piece.items) place lines → ItemsReach (labels pieces) own (start_of own + 4 * place) (items_of lines)
  lines_reach own piece place [] is_piece within fits = tt
  lines_reach own piece place (line ∷ lines) is_piece within fits =
      let one = width_is_one line.item in (
        item_reaches own piece place line.item is_piece (omega arith) fits.0,
        subst (λ a. ItemsReach (labels pieces) own a (items_of lines)) (let x : start_of own + 4 * (place + 1) ≡ start_of own + 4 * place + 4 * width line.item = omega arith in x)
            (lines_reach own piece (place + 1) lines is_piece (omega arith) fits.1),
      )

  piece_reaches : (own : ℕ) (piece : Piece) → slice_get pieces own ≡ Some piece → PieceFits (length pieces) piece → ItemsReach (labels pieces) own (start_of own) piece.items
  piece_reaches own piece is_piece fits =
      let long : length piece.items ≡ length fits.lines = ap length fits.items ∙ length-map fits.lines (λ line. line.item) in
      subst (λ items. ItemsReach (labels pieces) own (start_of own) items) (sym fits.items)
      (subst (λ a. ItemsReach (labels pieces) own a (items_of fits.lines)) (let x : start_of own + 4 * 0 ≡ start_of own = omega arith in x)
      (lines_reach own piece 0 fits.lines is_piece (omega arith)
      (subst (λ end. LinesFit (length pieces) end 0 fits.lines) (sym long) fits.fits)))

  reach_from : (own address : ℕ) (rest : List Piece) → ((n : ℕ) (piece : Piece) → slice_get rest n ≡ Some piece → slice_get pieces (own + n) ≡ Some piece)
      → ((piece : Piece) → slice_get rest 0 ≡ Some piece → address ≡ start_of own)
      → AllByRecursion (PieceFits (length pieces)) rest → PiecesReach (labels pieces) own address rest
  reach_from own address [] found begins fits = tt
  reach_from own address (x ∷ rest) found begins fits =
      let here : address ≡ start_of own = begins x refl in
      let is_here : slice_get pieces own ≡ Some x = ap (slice_get pieces) (let e : own ≡ own + 0 = omega arith in e) ∙ found 0 x refl in (
        subst (λ a. ItemsReach (labels pieces) own a x.items) (sym here) (piece_reaches own x is_here fits.0),
        reach_from (own + 1) (address + 4 * words_of x.items) rest
            (λ n piece is. ap (slice_get pieces) (let e : own + 1 + n ≡ own + suc n = omega arith in e) ∙ found (suc n) piece is)
            (λ next is.
            let is_next : slice_get pieces (suc own) ≡ Some next = ap (slice_get pieces) (let e : suc own ≡ own + 1 = omega arith in e) ∙ found 1 next is in
            ap (λ a. a + 4 * words_of x.items) here
            ∙ (sym (next_begins text_start pieces own x next is_here is_next) ∙ ap start_of (let e : suc own ≡ own + 1 = omega arith in e)))
            fits.1,
      )

  begins_there : (rest : List Piece) (piece : Piece) → slice_get rest 0 ≡ Some piece → text_start ≡ address_of (labels rest) 0 0
  begins_there [] piece is = absurd (none-some piece is)
  begins_there (x ∷ rest) piece is = sym (first_begins x rest)

  pub can_be_placed : AllByRecursion (PieceFits (length pieces)) pieces → CanBePlaced pieces
  can_be_placed fits = record {
    in_reach = reach_from 0 text_start pieces (λ n piece is. ap (slice_get pieces) (let e : 0 + n ≡ n = omega arith in e) ∙ is) (begins_there pieces) fits;
    in_time = omega arith;
  }
