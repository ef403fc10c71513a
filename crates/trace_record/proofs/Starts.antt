-- The pieces that marks show.
use Rattle.std.proofs.Common.{◌≡◌, ℕ, zero, suc, ◌+◌, ◌*◌, ◌<◌, ◌≤◌, inl, inr, ⊎_elim, Bool, true, false, cond, ◌==◌, ◌||◌, eqb-true, eq-eqb, List, [], ◌∷◌, map, length, get_or, bit_and, Option, Some, None, option_map, refl, sym, ap, ◌∙◌, arith}
use Rattle.std.specs.List.{cons_option}
use Rattle.decision_map.specs.Blocks.{block_end}
use Rattle.decision_map.specs.Kinds.{kinds_of_text}
use Rattle.cov_base.specs.Lists.{Somewhere, Everywhere}
use Rattle.object_format.specs.declared.object.Object.{Object}
use Rattle.trace_format.specs.declared.trace.Block.{Block}
use Rattle.transcript.specs.Pieces.{Piece, StartsRise}
use Rattle.trace_record.specs.declared.mark.Mark.{Mark}
use Rattle.trace_record.specs.Marks.{bits, starts_at}
use Rattle.trace_record.specs.Written.{no_mark, is_start, block_to, blocks_from}

pub is_start_bits : (t n s : Bool) → (bit_and (bits t n s) 4 == 4) ≡ s
is_start_bits false false false = refl
is_start_bits false false true = refl
is_start_bits false true false = refl
is_start_bits false true true = refl
is_start_bits true false false = refl
is_start_bits true false true = refl
is_start_bits true true false = refl
is_start_bits true true true = refl

pub edges_bits : (t n s : Bool) → bit_and (bits t n s) 3 ≡ bits t n false
edges_bits false false false = refl
edges_bits false false true = refl
edges_bits false true false = refl
edges_bits false true true = refl
edges_bits true false false = refl
edges_bits true false true = refl
edges_bits true true false = refl
edges_bits true true true = refl

-- the piece from an address to this end
abbrev pub piece_to : (start last : ℕ) → Piece
piece_to start last = record { start = start; last = last }

-- the piece that starts at an address whose word has this mark, if one does
abbrev pub piece_at : Object → Mark → (start : ℕ) → Option Piece
piece_at o m start = cond (is_start m) (option_map (piece_to start) (block_end (kinds_of_text o.text) start)) None

-- the pieces that start from an address on, whose word has the first of these marks
abbrev pub shown : Object → (start : ℕ) → List Mark → List Piece
shown o start [] = []
shown o start (m ∷ ms) = cons_option (piece_at o m start) (shown o (start + 4) ms)

-- the block of such a piece
abbrev pub filled : List Mark → Piece → Block
filled marks p = block_to marks p.start p.last

pub blocks_are_shown : (o : Object) (marks : List Mark) (start : ℕ) (ms : List Mark) → blocks_from o marks start ms ≡ map (filled marks) (shown o start ms)
blocks_are_shown o marks start [] = refl
blocks_are_shown o marks start (m ∷ ms) =
    by_mark (is_start m) (block_end (kinds_of_text o.text) start) (blocks_from o marks (start + 4) ms) (shown o (start + 4) ms) (blocks_are_shown o marks (start + 4) ms)
  where
    by_mark : (b : Bool) (end : Option ℕ) (bs : List Block) (ps : List Piece) → bs ≡ map (filled marks) ps
        → cons_option (cond b (option_map (block_to marks start) end) None) bs ≡ map (filled marks) (cons_option (cond b (option_map (piece_to start) end) None) ps)
    by_mark true None bs ps rest = rest
    by_mark true (Some last) bs ps rest = ap (λ (xs : List Block). block_to marks start last ∷ xs) rest
    by_mark false end bs ps rest = rest

all_weaker : {X : Type 0} (P Q : X → Type 0) → ((x : X) → P x → Q x) → (xs : List X) → Everywhere P xs → Everywhere Q xs
all_weaker P Q f [] all = tt
all_weaker P Q f (x ∷ xs) all = (f x all.0, all_weaker P Q f xs all.1)

-- they rise
pub shown_rise : (o : Object) (start : ℕ) (ms : List Mark) → Everywhere (λ q. start ≤ q.start) (shown o start ms) × StartsRise (shown o start ms)
shown_rise o start [] = (tt, tt)
shown_rise o start (m ∷ ms) =
    let rest = shown_rise o (start + 4) ms in
    by_mark (is_start m) (block_end (kinds_of_text o.text) start) (shown o (start + 4) ms) rest.0 rest.1
  where
    by_mark : (b : Bool) (end : Option ℕ) (ps : List Piece) → Everywhere (λ q. start + 4 ≤ q.start) ps → StartsRise ps
        → Everywhere (λ q. start ≤ q.start) (cons_option (cond b (option_map (piece_to start) end) None) ps)
        × StartsRise (cons_option (cond b (option_map (piece_to start) end) None) ps)
    by_mark true None ps above rise = (all_weaker (λ (q : Piece). start + 4 ≤ q.start) (λ (q : Piece). start ≤ q.start) (λ q h. omega (arith, h)) ps above, rise)
    by_mark true (Some last) ps above rise = (
      (omega arith, all_weaker (λ (q : Piece). start + 4 ≤ q.start) (λ (q : Piece). start ≤ q.start) (λ q h. omega (arith, h)) ps above),
      (all_weaker (λ (q : Piece). start + 4 ≤ q.start) (λ (q : Piece). start < q.start) (λ q h. omega (arith, h)) ps above, rise),
    )
    by_mark false end ps above rise = (all_weaker (λ (q : Piece). start + 4 ≤ q.start) (λ (q : Piece). start ≤ q.start) (λ q h. omega (arith, h)) ps above, rise)

-- each of them starts at a marked word
pub all_shown : (o : Object) (P : Piece → Type 0) (start : ℕ) (ms : List Mark)
    → ((k pc : ℕ) (x : Piece) → k < length ms → pc ≡ start + 4 * k → piece_at o (get_or ms k no_mark) pc ≡ Some x → P x)
    → Everywhere P (shown o start ms)
all_shown o P start [] each = tt
all_shown o P start (m ∷ ms) each =
    by_piece (piece_at o m start) refl (shown o (start + 4) ms)
    (all_shown o P (start + 4) ms (λ k pc x within at is. each (suc k) pc x (omega arith) (omega (arith, at)) is))
  where
    by_piece : (found : Option Piece) → piece_at o m start ≡ found → (ps : List Piece) → Everywhere P ps → Everywhere P (cons_option found ps)
    by_piece None is ps all = all
    by_piece (Some x) is ps all = (each zero start x (omega arith) (omega arith) is, all)

-- each marked word starts one of them
pub to_shown : (o : Object) (x : Piece) (start : ℕ) (ms : List Mark) (k pc : ℕ) → k < length ms → pc ≡ start + 4 * k
    → piece_at o (get_or ms k no_mark) pc ≡ Some x → Somewhere (λ q. q ≡ x) (shown o start ms)
to_shown o x start [] k pc within at is = absurd (omega arith)
to_shown o x start (m ∷ ms) zero pc within at is =
    let here : pc ≡ start = omega (arith, at) in
    by_piece (piece_at o m start) (ap (piece_at o m) (sym here) ∙ is) (shown o (start + 4) ms)
  where
    by_piece : (found : Option Piece) → found ≡ Some x → (ps : List Piece) → Somewhere (λ q. q ≡ x) (cons_option found ps)
    by_piece None same ps = absurd (cc same)
    by_piece (Some y) same ps = let one : y ≡ x = cc same in inl one
to_shown o x start (m ∷ ms) (suc k) pc within at is =
    by_piece (piece_at o m start) (shown o (start + 4) ms) (to_shown o x (start + 4) ms k pc (omega arith) (omega (arith, at)) is)
  where
    by_piece : (found : Option Piece) (ps : List Piece) → Somewhere (λ q. q ≡ x) ps → Somewhere (λ q. q ≡ x) (cons_option found ps)
    by_piece None ps there = there
    by_piece (Some y) ps there = inr there

-- a piece that starts at an address
pub started : (ps : List Piece) (pc : ℕ) → starts_at ps pc ≡ true → (p : Piece) × (p.start ≡ pc) × Somewhere (λ q. q ≡ p) ps
started [] pc is = absurd (cc is)
started (p ∷ ps) pc is = by_start (p.start == pc) refl is (started ps pc)
  where
    by_start : (b : Bool) → (p.start == pc) ≡ b → (b || starts_at ps pc) ≡ true
        → (starts_at ps pc ≡ true → (q : Piece) × (q.start ≡ pc) × Somewhere (λ r. r ≡ q) ps)
        → (q : Piece) × (q.start ≡ pc) × Somewhere (λ r. r ≡ q) (p ∷ ps)
    by_start true same is rest = (p, eqb-true p.start pc same, inl refl)
    by_start false same is rest = let later = rest is in (later.0, later.1, inr later.2)

pub starts_there : (ps : List Piece) (p : Piece) → Somewhere (λ q. q ≡ p) ps → starts_at ps p.start ≡ true
starts_there [] p there = absurd there
starts_there (q ∷ ps) p there =
    ⊎_elim (λ here. ap (λ (b : Bool). b || starts_at ps p.start) (eq-eqb q.start p.start (ap (λ (r : Piece). r.start) here)))
    (λ later. by_start (q.start == p.start) (starts_there ps p later)) there
  where
    by_start : (b : Bool) → starts_at ps p.start ≡ true → (b || starts_at ps p.start) ≡ true
    by_start true is = refl
    by_start false is = is
