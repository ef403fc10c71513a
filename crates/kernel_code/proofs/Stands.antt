-- Placed pieces have their lines.
use Rattle.std.proofs.Common.{◌≡◌, ℕ, zero, suc, ◌+◌, ◌*◌, ◌%◌, ◌≤◌, ◌<◌, ◌==◌, true, false, List, [], ◌∷◌, ◌++◌, length, take, slice_get, Some, None, option_map, refl, sym, ap, subst, ◌∙◌, arith}
use Rattle.std.proofs.lemmas.Bool.Decides.{nat_tests}
use Rattle.std.proofs.lemmas.List.{length-map, length-take-le}
use Rattle.std.proofs.lemmas.Option.{none-some, cond_some, slice_get-map, slice_get_within}
use Rattle.rv_semantics.specs.Layout.{text_start, data_start}
use Rattle.rv_semantics.specs.State.{Image}
use Rattle.rv_isa.specs.Rows.{word}
use Rattle.placed_code.specs.Code.{text_end, HasAt}
use Rattle.placed_code.specs.Reach.{branch_halves, jump_halves}
use Rattle.transcript.specs.Facts.{Facts}
use Rattle.assembler.specs.declared.piece.Item.{Item}
use Rattle.assembler.specs.declared.piece.Item.TheVariants.{Plain, Branch as BranchTo, Jump, Call}
use Rattle.assembler.specs.declared.piece.Mark.{Mark}
use Rattle.assembler.specs.declared.piece.Piece.{Piece}
use Rattle.assembler.specs.Placed.{width, words_of, words_in, address_of, item_code, labels, code}
use Rattle.assembler.specs.Reach.{HasLabel, ItemReaches}
use Rattle.assembler.specs.Laws.{ArePlaced}
use Rattle.assembler.proofs.Codes.{pieces_length}
use Rattle.assembler.proofs.Labels.{labels_follow, labels_lie}
use Rattle.assembler.proofs.Stands.{items_stand, branches_lead, jumps_lead, calls_lead}
use Rattle.kernel_code.specs.Line.{Line, Said, nothing, starts, decides, checks, steers, items_of, mark_of, marks_from, row_said, condition_said, Site, ItemStands, LineStands, HasLines}
use Rattle.kernel_code.specs.Code.{body_lines, start_lines}
use Rattle.kernel_code.specs.FillCode.{layout_lines}
use Rattle.kernel_code.specs.Calls.{first_layout, setting}
use Rattle.kernel_code.specs.Marked.{piece_of}
use Rattle.kernel_code.specs.Standing.{row_marked, condition_marked, HaveMarks, site_of, PiecesHaveLines, PlacedKernelsHold}

-- the marks of lines give each item what its line says

own_place : (place : ℕ) → (place == place) ≡ true
own_place place = grind (arith, nat_tests)

other_place : (place j : ℕ) → j < place → (place == j) ≡ false
other_place place j before = grind (arith, nat_tests)

-- one mark, and those behind it

row_of_one : (said : Said) (place : ℕ) (marks : List Mark) → row_marked place marks ≡ None → row_marked place (mark_of place said ++ marks) ≡ row_said said
row_of_one nothing place marks behind = behind
row_of_one (starts statement instance) place marks behind = rw (own_place place) refl
row_of_one (decides decision at_node instance) place marks behind = behind
row_of_one checks place marks behind = behind
row_of_one steers place marks behind = behind

row_past_one : (said : Said) (place j : ℕ) (marks : List Mark) → (place == j) ≡ false → row_marked j (mark_of place said ++ marks) ≡ row_marked j marks
row_past_one nothing place j marks other = refl
row_past_one (starts statement instance) place j marks other = rw other refl
row_past_one (decides decision at_node instance) place j marks other = refl
row_past_one checks place j marks other = refl
row_past_one steers place j marks other = refl

condition_of_one : (said : Said) (place : ℕ) (marks : List Mark) → condition_marked place marks ≡ None → condition_marked place (mark_of place said ++ marks) ≡ condition_said said
condition_of_one nothing place marks behind = behind
condition_of_one (starts statement instance) place marks behind = behind
condition_of_one (decides decision at_node instance) place marks behind = rw (own_place place) refl
condition_of_one checks place marks behind = rw (own_place place) refl
condition_of_one steers place marks behind = rw (own_place place) refl

condition_past_one : (said : Said) (place j : ℕ) (marks : List Mark) → (place == j) ≡ false → condition_marked j (mark_of place said ++ marks) ≡ condition_marked j marks
condition_past_one nothing place j marks other = refl
condition_past_one (starts statement instance) place j marks other = refl
condition_past_one (decides decision at_node instance) place j marks other = rw other refl
condition_past_one checks place j marks other = rw other refl
condition_past_one steers place j marks other = rw other refl

no_row_before : (place j : ℕ) (lines : List Line) → j < place → row_marked j (marks_from place lines) ≡ None
no_row_before place j [] before = refl
no_row_before place j (line ∷ lines) before =
    row_past_one line.said place j (marks_from (place + 1) lines) (other_place place j before) ∙ no_row_before (place + 1) j lines (omega arith)

no_condition_before : (place j : ℕ) (lines : List Line) → j < place → condition_marked j (marks_from place lines) ≡ None
no_condition_before place j [] before = refl
no_condition_before place j (line ∷ lines) before =
    condition_past_one line.said place j (marks_from (place + 1) lines) (other_place place j before) ∙ no_condition_before (place + 1) j lines (omega arith)

-- an item of lines that are marked from a place on
row_found : (place : ℕ) (lines : List Line) (n : ℕ) (line : Line) → slice_get lines n ≡ Some line → row_marked (place + n) (marks_from place lines) ≡ row_said line.said
row_found place [] n line is = absurd (none-some line is)
row_found place (first ∷ lines) zero line is =
    let same : first ≡ line = (cond_some true first line is).1 in
    let own : place + 0 ≡ place = omega arith in
    subst (λ l. row_marked (place + 0) (marks_from place (first ∷ lines)) ≡ row_said l.said) same
    (subst (λ q. row_marked q (marks_from place (first ∷ lines)) ≡ row_said first.said) (sym own)
    (row_of_one first.said place (marks_from (place + 1) lines) (no_row_before (place + 1) place lines (omega arith))))
row_found place (first ∷ lines) (suc n) line is =
    row_past_one first.said place (place + suc n) (marks_from (place + 1) lines) (let x : (place == place + suc n) ≡ false = grind (arith, nat_tests) in x)
    ∙ (ap (λ q. row_marked q (marks_from (place + 1) lines)) (let x : place + suc n ≡ place + 1 + n = omega arith in x) ∙ row_found (place + 1) lines n line is)

condition_found : (place : ℕ) (lines : List Line) (n : ℕ) (line : Line) → slice_get lines n ≡ Some line → condition_marked (place + n) (marks_from place lines) ≡ condition_said line.said
condition_found place [] n line is = absurd (none-some line is)
condition_found place (first ∷ lines) zero line is =
    let same : first ≡ line = (cond_some true first line is).1 in
    let own : place + 0 ≡ place = omega arith in
    subst (λ l. condition_marked (place + 0) (marks_from place (first ∷ lines)) ≡ condition_said l.said) same
    (subst (λ q. condition_marked q (marks_from place (first ∷ lines)) ≡ condition_said first.said) (sym own)
    (condition_of_one first.said place (marks_from (place + 1) lines) (no_condition_before (place + 1) place lines (omega arith))))
condition_found place (first ∷ lines) (suc n) line is =
    condition_past_one first.said place (place + suc n) (marks_from (place + 1) lines) (let x : (place == place + suc n) ≡ false = grind (arith, nat_tests) in x)
    ∙ (ap (λ q. condition_marked q (marks_from (place + 1) lines)) (let x : place + suc n ≡ place + 1 + n = omega arith in x) ∙ condition_found (place + 1) lines n line is)

-- each item is one word

pub width_is_one : (item : Item) → width item ≡ 1
width_is_one (Plain i) = refl
width_is_one (BranchTo op rs1 rs2 to) = refl
width_is_one (Jump rd to) = refl
width_is_one (Call rd piece to) = refl

pub one_word_each : (items : List Item) → words_of items ≡ length items
one_word_each [] = refl
one_word_each (item ∷ items) =
    let one = width_is_one item in
    let rest = one_word_each items in
    (let x : width item + words_of items ≡ suc (length items) = omega arith in x)

-- a piece of lines that is placed as number `own`
module _ (image : Image) (facts : Facts) (pieces : List Piece) (own : ℕ) (lines : List Line) (placed : ArePlaced image pieces) (have : HaveMarks facts pieces) (is_piece : slice_get pieces own ≡ Some (piece_of lines)) where
  abbrev site : Site
  site = site_of image facts pieces

  abbrev base : ℕ
  base = address_of (labels pieces) own 0

  -- labels are four bytes apart
  label_is : (j : ℕ) → j ≤ length (items_of lines) → HasLabel (labels pieces) own j × (address_of (labels pieces) own j ≡ base + 4 * j)
  label_is j within =
      let (has, is) = labels_follow pieces own (piece_of lines) j is_piece within in
      let words : words_of (take j (items_of lines)) ≡ j = one_word_each (take j (items_of lines)) ∙ length-take-le j (items_of lines) within in
      (has, is ∙ ap (λ n. base + 4 * n) words)

  lies : (j : ℕ) → j ≤ length (items_of lines) → address_of (labels pieces) own j % 4 ≡ 0
  lies j within = (labels_lie pieces own j (label_is j within).0).0

  stands_as : (from : ℕ) (item : Item) → from % 4 ≡ 0 → HasAt image from (item_code (labels pieces) own from item) → ItemReaches (labels pieces) own from item → ItemStands site own from item
  stands_as from (Plain i) multiple has reach = has.0
  stands_as from (BranchTo op rs1 rs2 to) multiple has reach =
      let (stands, lands, aligned) = branches_lead image pieces own from op rs1 rs2 to placed multiple has reach in
      record { halves = branch_halves from (address_of (labels pieces) own to.0); stands = stands; lands = lands; aligned = aligned }
  stands_as from (Jump rd to) multiple has reach =
      let (stands, lands, aligned) = jumps_lead image pieces own from rd to placed multiple has reach in
      record { halves = jump_halves from (address_of (labels pieces) own to.0); stands = stands; lands = lands; aligned = aligned }
  stands_as from (Call rd piece to) multiple has reach =
      let (stands, lands, aligned) = calls_lead image pieces own from rd piece to placed multiple has reach in
      record { halves = jump_halves from (address_of (labels pieces) piece.0 to.0); stands = stands; lands = lands; aligned = aligned }

  line_stands : (j : ℕ) (line : Line) → slice_get lines j ≡ Some line → LineStands site own j line
  line_stands j line is =
      let is_item : slice_get (items_of lines) j ≡ Some line.item = slice_get-map (λ (l : Line). l.item) lines j ∙ ap (λ o. option_map (λ (l : Line). l.item) o) is in
      let within = slice_get_within (items_of lines) j line.item is_item in
      let both = items_stand image pieces own (piece_of lines) j line.item placed is_piece is_item in
      let here = (label_is j (omega arith)).1 in
      let next = (label_is (j + 1) (omega arith)).1 in
      record {
        item = stands_as (address_of (labels pieces) own j) line.item (lies j (omega arith)) both.0 both.1;
        next = omega arith;
        aligned = lies j (omega arith);
        row = have.rows own (piece_of lines) j is_piece within ∙ (ap (λ q. row_marked q (marks_from 0 lines)) (let x : j ≡ 0 + j = omega arith in x) ∙ row_found 0 lines j line is);
        condition = have.conditions own (piece_of lines) j is_piece within ∙ (ap (λ q. condition_marked q (marks_from 0 lines)) (let x : j ≡ 0 + j = omega arith in x) ∙ condition_found 0 lines j line is);
      }

  lines_from : (place : ℕ) (rest : List Line) → ((n : ℕ) (line : Line) → slice_get rest n ≡ Some line → slice_get lines (place + n) ≡ Some line) → HasLines site own place rest
  lines_from place [] are = tt
  lines_from place (line ∷ rest) are = (
    line_stands place line (ap (slice_get lines) (let x : place ≡ place + 0 = omega arith in x) ∙ are 0 line refl),
    lines_from (place + 1) rest (λ n l is. ap (slice_get lines) (let x : place + 1 + n ≡ place + suc n = omega arith in x) ∙ are (suc n) l is),
  )

pub pieces_have_lines : PiecesHaveLines
pieces_have_lines image facts pieces own lines placed have is_piece =
    lines_from image facts pieces own lines placed have is_piece 0 lines (λ n line is. ap (slice_get lines) (let x : 0 + n ≡ n = omega arith in x) ∙ is)

text_is_short : (image : Image) (pieces : List Piece) → ArePlaced image pieces → text_end image ≤ data_start
text_is_short image pieces placed =
    let in_time = placed.in_time in
    let long : length image.text ≡ words_in pieces = ap length placed.text ∙ (length-map (code pieces) word ∙ pieces_length (labels pieces) 0 text_start pieces) in
    omega arith

pub placed_kernels_hold : PlacedKernelsHold
placed_kernels_hold image facts pieces p placed have kernel fair raised = record {
  fair = record { facts = fair; text = text_is_short image pieces placed; raised = raised };
  start = pieces_have_lines image facts pieces 0 (start_lines p.main) placed have kernel.start;
  bodies = λ f b is. pieces_have_lines image facts pieces (f + 1) (body_lines (setting p b.width) b.code) placed have (kernel.bodies f b is);
  layouts = λ l x is. pieces_have_lines image facts pieces (first_layout p + l) (layout_lines (first_layout p) l x) placed have (kernel.layouts l x is);
}
