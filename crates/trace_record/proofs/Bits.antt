-- Marks with one more bit.
use Rattle.std.proofs.Common.{◌≡◌, ℕ, Bool, true, false, ◌==◌, ◌||◌, ◌&&◌, List, [], ◌∷◌, ◌++◌, bit_or, Option, Some, None, refl, sym, ap, ◌∙◌}
use Rattle.transcript.specs.Pieces.{Piece}
use Rattle.transcript.specs.Trace.{is_edge}
use Rattle.trace_record.specs.Marks.{bits, starts_at, with_bit, with_edge}

or_true : (b : Bool) → (b || true) ≡ true
or_true true = refl
or_true false = refl

or_false : (b : Bool) → (b || false) ≡ b
or_false true = refl
or_false false = refl

taken_bit : (t n s : Bool) → bit_or (bits t n s) 1 ≡ bits true n s
taken_bit false false false = refl
taken_bit false false true = refl
taken_bit false true false = refl
taken_bit false true true = refl
taken_bit true false false = refl
taken_bit true false true = refl
taken_bit true true false = refl
taken_bit true true true = refl

untaken_bit : (t n s : Bool) → bit_or (bits t n s) 2 ≡ bits t true s
untaken_bit false false false = refl
untaken_bit false false true = refl
untaken_bit false true false = refl
untaken_bit false true true = refl
untaken_bit true false false = refl
untaken_bit true false true = refl
untaken_bit true true false = refl
untaken_bit true true true = refl

start_bit : (t n s : Bool) → bit_or (bits t n s) 4 ≡ bits t n true
start_bit false false false = refl
start_bit false false true = refl
start_bit false true false = refl
start_bit false true true = refl
start_bit true false false = refl
start_bit true false true = refl
start_bit true true false = refl
start_bit true true true = refl

-- equal parts make equal marks
pub equal_bits : (t n s t' n' s' : Bool) → t ≡ t' → n ≡ n' → s ≡ s' → bits t n s ≡ bits t' n' s'
equal_bits t n s t' n' s' first second third =
    ap (λ (b : Bool). bits b n s) first ∙ ap (λ (b : Bool). bits t' b s) second ∙ ap (λ (b : Bool). bits t' n' b) third

-- the mark of a word once an executed instruction took this edge, there or elsewhere
pub edge_bits : (here : Bool) (edge : Option Bool) (t n s : Bool)
    → with_edge here edge (bits t n s) ≡ bits (t || ((here && is_edge edge true) || false)) (n || ((here && is_edge edge false) || false)) s
edge_bits true None t n s = equal_bits t n s (t || false) (n || false) s (sym (or_false t)) (sym (or_false n)) refl
edge_bits true (Some true) t n s = taken_bit t n s ∙ equal_bits true n s (t || true) (n || false) s (sym (or_true t)) (sym (or_false n)) refl
edge_bits true (Some false) t n s = untaken_bit t n s ∙ equal_bits t true s (t || false) (n || true) s (sym (or_false t)) (sym (or_true n)) refl
edge_bits false None t n s = equal_bits t n s (t || false) (n || false) s (sym (or_false t)) (sym (or_false n)) refl
edge_bits false (Some taken) t n s = equal_bits t n s (t || false) (n || false) s (sym (or_false t)) (sym (or_false n)) refl

-- and once a piece starts there, or elsewhere
pub start_bits : (here t n s : Bool) → with_bit here 4 (bits t n s) ≡ bits t n (s || (here || false))
start_bits true t n s = start_bit t n s ∙ equal_bits t n true t n (s || true) refl refl (sym (or_true s))
start_bits false t n s = equal_bits t n s t n (s || false) refl refl (sym (or_false s))

pub starts_append : (ps qs : List Piece) (pc : ℕ) → starts_at (ps ++ qs) pc ≡ (starts_at ps pc || starts_at qs pc)
starts_append [] qs pc = refl
starts_append (p ∷ ps) qs pc =
    ap (λ (b : Bool). (p.start == pc) || b) (starts_append ps qs pc) ∙ or_assoc (p.start == pc) (starts_at ps pc) (starts_at qs pc)
  where
    or_assoc : (x y z : Bool) → (x || (y || z)) ≡ ((x || y) || z)
    or_assoc true y z = refl
    or_assoc false y z = refl

-- no piece more starts nowhere else
pub starts_none : (ps : List Piece) (pc : ℕ) → starts_at (ps ++ []) pc ≡ starts_at ps pc
starts_none ps pc = starts_append ps [] pc ∙ or_false (starts_at ps pc)
