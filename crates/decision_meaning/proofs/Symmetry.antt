-- A pair stays a pair of its kind when its vectors are exchanged.
use Rattle.std.proofs.Common.{◌≡◌, ℕ, zero, suc, Bool, true, false, not, ◌&&◌, ◌||◌, List, [], ◌∷◌, Some, refl, subst, ◌∙◌, ⊎_elim}
use Rattle.cov_base.specs.declared.event.Vector.{Vector}
use Rattle.cov_base.specs.Expr.{Expr, size}
use Rattle.cov_base.specs.Marks.{Marks, marks, outcome, precedes}
use Rattle.decision_meaning.specs.Unmasked.{unmasked}
use Rattle.cov_base.specs.Lists.{Everywhere, Somewhere}
use Rattle.decision_meaning.specs.Pair.{turns, others_agree, is_unique_cause, is_masking, Pair, pair_precedes, IsLeastPair}
use Rattle.decision_meaning.proofs.Pairs.{same_swap, and_swap, agrees_swap}

turns_swap : (c : ℕ) (v w : Marks) → turns c v w ≡ turns c w v
turns_swap c v w = rw (and_swap (v.seen c) (w.seen c), same_swap (v.value c) (w.value c)) refl

others_swap : (c m : ℕ) (v w : Marks) → others_agree c m v w ≡ others_agree c m w v
others_swap c zero v w = refl
others_swap c (suc d) v w = rw (agrees_swap d v w, others_swap c d v w) refl

pub unique_cause_swaps : (e : Expr) (c : ℕ) (v w : Marks) → is_unique_cause e c v w ≡ is_unique_cause e c w v
unique_cause_swaps e c v w =
    rw (same_swap (outcome e v) (outcome e w), turns_swap c v w, others_swap c (size e) v w) refl

pub masking_swaps : (e : Expr) (c : ℕ) (v w : Marks) → is_masking e c v w ≡ is_masking e c w v
masking_swaps e c v w =
    rw (and_swap (unmasked e v c) (unmasked e w c), same_swap (v.value c) (w.value c)) refl

-- what holds everywhere in a list holds of an item
everywhere_item : {X : Type 0} (P : X → Type 0) (y : X) (xs : List X) → Everywhere P xs → Somewhere (λ x. x ≡ y) xs → P y
everywhere_item P y [] all at = absurd at
everywhere_item P y (x ∷ xs) all at =
    ⊎_elim (λ here. subst P here all.0) (λ there. everywhere_item P y xs all.1 there) at

or_left_false : (a b : Bool) → (a || b) ≡ false → a ≡ false
or_left_false true b is = is
or_left_false false b is = refl

and_right_false : (a b : Bool) → a ≡ true → (a && b) ≡ false → b ≡ false
and_right_false true b passes is = is
and_right_false false b passes is = absurd (cc passes)

-- the least pair of a test that doesn't tell the ways round apart has its lesser vector first
pub lesser_first : (test : Marks → Marks → Bool) → ((v w : Marks) → test v w ≡ test w v) → (conditions : ℕ) (vectors : List Vector) (p : Pair)
    → IsLeastPair conditions test vectors (Some p) → precedes conditions (marks p.second) (marks p.first) ≡ false
lesser_first test swaps conditions vectors p least =
    let v : Marks = marks p.first in
    let w : Marks = marks p.second in
    let turned : (test w v && pair_precedes conditions w v v w) ≡ false =
    everywhere_item (λ (y : Vector). (test w (marks y) && pair_precedes conditions w (marks y) v w) ≡ false) p.first vectors
    (everywhere_item (λ (x : Vector). Everywhere (λ (y : Vector). (test (marks x) (marks y) && pair_precedes conditions (marks x) (marks y) v w) ≡ false) vectors)
    p.second vectors least.1 least.0.has_second)
    least.0.has_first in
    or_left_false (precedes conditions w v) (not (precedes conditions v w) && precedes conditions v w)
    (and_right_false (test w v) (pair_precedes conditions w v v w) (swaps w v ∙ least.0.passes) turned)
