-- The search answers the least pair.
use Rattle.std.proofs.Common.{◌≡◌, ℕ, ◌<◌, ◌≤◌, ◌+◌, ◌-◌, inl, inr, ◌||◌, Bool, true, false, not, ◌&&◌, List, [], ◌∷◌, Option, Some, None, refl, ap, subst, sym, ◌∙◌, arith, nat_lt, if◌then◌else◌}
use Rattle.std.proofs.lemmas.Bool.{cond-false}
use Rattle.std.proofs.lemmas.Bool.Decides.{leb_tells, nat_tests}
use Rattle.cov_base.specs.declared.event.Vector.{Vector}
use Rattle.cov_base.specs.Marks.{Marks, marks, bit, same, precedes}
use Rattle.decision_meaning.specs.Unmasked.{unmasked}
use Rattle.cov_base.specs.Expr.{Expr, size}
use Rattle.cov_base.specs.Graph.{graph}
use Rattle.cov_base.specs.Path.{IsPathVector}
use Rattle.cov_base.specs.Lists.{Everywhere, Somewhere}
use Rattle.decision_meaning.specs.Pair.{Pair, pair_precedes, is_unique_cause, is_masking, IsPairOf, IsLeastPair}
use Rattle.decision_meaning.proofs.Pairs.{unique_masks}
use Rattle.mcdc_verdicts.specs.Search.{widest, IsWord, improves, is_behind, lesser, best_with, best_of}
use Rattle.mcdc_verdicts.proofs.Lists.{everywhere-map, everywhere-item, itself}
use Rattle.mcdc_verdicts.proofs.Ordering.{key_from, by_keys, pair-transitive, pair-irreflexive, narrowed, unseen_alike}
use Rattle.mcdc_verdicts.proofs.Marking.{unset_above}
use Rattle.mcdc_verdicts.proofs.Causing.{IsUnseenFrom, path-unseen}

-- the pair of x and y doesn't pass, or doesn't come before the best one
abbrev pub IsBeaten : (test : Marks → Marks → Bool) → Option Pair → (x y : Vector) → Type 0
IsBeaten test best x y = (test (marks x) (marks y) && improves x y best) ≡ false

improves-transitive : (x y v w : Vector) (best : Option Pair) →
    pair_precedes widest (marks x) (marks y) (marks v) (marks w) ≡ true → improves v w best ≡ true → improves x y best ≡ true
improves-transitive x y v w None h l = refl
improves-transitive x y v w (Some p) h l =
    pair-transitive widest (marks x) (marks y) (marks v) (marks w) (marks p.first) (marks p.second) h l

-- a pair that comes before fewer pairs stays beaten
still : (t was now : Bool) → (now ≡ true → was ≡ true) → (t && was) ≡ false → (t && now) ≡ false
still false was now f h = refl
still true was false f h = refl
still true was true f h = sym (f refl) ∙ h

of_both : (a b : Bool) → (a && b) ≡ true → b ≡ true
of_both true b h = h
of_both false b h = cc

beaten_by_choice : (test : Marks → Marks → Bool) (x y v w : Vector) (best : Option Pair) (b : Bool) →
    (b ≡ true → improves v w best ≡ true) → IsBeaten test best x y →
    IsBeaten test (if b then Some (record { first = v; second = w }) else best) x y
beaten_by_choice test x y v w best true sooner h =
    still (test (marks x) (marks y)) (improves x y best) (improves x y (Some (record { first = v; second = w })))
    (λ e. improves-transitive x y v w best e (sooner refl)) h
beaten_by_choice test x y v w best false sooner h = h

-- what was beaten stays so when a pair is met
beaten_by_lesser : (test : Marks → Marks → Bool) (x y v w : Vector) (best : Option Pair) →
    IsBeaten test best x y → IsBeaten test (lesser test v w best) x y
beaten_by_lesser test x y v w best h =
    beaten_by_choice test x y v w best (test (marks v) (marks w) && improves v w best)
    (of_both (test (marks v) (marks w)) (improves v w best)) h

-- and the pair that is met is beaten
beaten_choice : (v w : Vector) (best : Option Pair) (t i : Bool) → improves v w best ≡ i →
    (t && improves v w (if t && i then Some (record { first = v; second = w }) else best)) ≡ false
beaten_choice v w best false i e = refl
beaten_choice v w best true false e = e
beaten_choice v w best true true e = pair-irreflexive widest (marks v) (marks w)

beaten_itself : (test : Marks → Marks → Bool) (v w : Vector) (best : Option Pair) → IsBeaten test (lesser test v w best) v w
beaten_itself test v w best = beaten_choice v w best (test (marks v) (marks w)) (improves v w best) refl

-- what was beaten stays so along a row
row_keeps : (test : Marks → Marks → Bool) (x y v : Vector) (ws : List Vector) (best : Option Pair) →
    IsBeaten test best x y → IsBeaten test (best_with test v ws best) x y
row_keeps test x y v [] best h = h
row_keeps test x y v (w ∷ ws) best h =
    row_keeps test x y v ws (lesser test v w best) (beaten_by_lesser test x y v w best h)

-- the pairs of a row are beaten at its end
row_beats : (test : Marks → Marks → Bool) (v : Vector) (ws : List Vector) (best : Option Pair) →
    Everywhere (λ w. IsBeaten test (best_with test v ws best) v w) ws
row_beats test v [] best = tt
row_beats test v (w ∷ ws) best =
    (row_keeps test v w v ws (lesser test v w best) (beaten_itself test v w best), row_beats test v ws (lesser test v w best))

all_keep : (test : Marks → Marks → Bool) (x y : Vector) (vs ws : List Vector) (best : Option Pair) →
    IsBeaten test best x y → IsBeaten test (best_of test vs ws best) x y
all_keep test x y [] ws best h = h
all_keep test x y (v ∷ vs) ws best h =
    all_keep test x y vs ws (best_with test v ws best) (row_keeps test x y v ws best h)

all_beat : (test : Marks → Marks → Bool) (vs ws : List Vector) (best : Option Pair) →
    Everywhere (λ v. Everywhere (λ w. IsBeaten test (best_of test vs ws best) v w) ws) vs
all_beat test [] ws best = tt
all_beat test (v ∷ vs) ws best =
    let after = best_with test v ws best in (
      everywhere-map (IsBeaten test after v) (IsBeaten test (best_of test vs ws after) v)
          (λ w h. all_keep test v w vs ws after h) ws (row_beats test v ws best),
      all_beat test vs ws after,
    )

-- the best pair is of the list, and passes
abbrev pub IsFrom : (test : Marks → Marks → Bool) → List Vector → Option Pair → Type 0
IsFrom test vectors None = Unit {0}
IsFrom test vectors (Some p) = IsPairOf test vectors p

from_choice : (test : Marks → Marks → Bool) (vectors : List Vector) (v w : Vector) (best : Option Pair) (b t : Bool) →
    t ≡ test (marks v) (marks w) →
    Somewhere (λ x. x ≡ v) vectors → Somewhere (λ x. x ≡ w) vectors → IsFrom test vectors best →
    IsFrom test vectors (if t && b then Some (record { first = v; second = w }) else best)
from_choice test vectors v w best true true e hv hw h = record { has_first = hv; has_second = hw; passes = sym e }
from_choice test vectors v w best false true e hv hw h = h
from_choice test vectors v w best b false e hv hw h = h

row_from : (test : Marks → Marks → Bool) (vectors : List Vector) (v : Vector) (ws : List Vector) (best : Option Pair) →
    Somewhere (λ x. x ≡ v) vectors → Everywhere (λ w. Somewhere (λ x. x ≡ w) vectors) ws →
    IsFrom test vectors best → IsFrom test vectors (best_with test v ws best)
row_from test vectors v [] best hv hws h = h
row_from test vectors v (w ∷ ws) best hv hws h =
    row_from test vectors v ws (lesser test v w best) hv hws.1
    (from_choice test vectors v w best (improves v w best) (test (marks v) (marks w)) refl hv hws.0 h)

all_from : (test : Marks → Marks → Bool) (vectors vs ws : List Vector) (best : Option Pair) →
    Everywhere (λ v. Somewhere (λ x. x ≡ v) vectors) vs → Everywhere (λ w. Somewhere (λ x. x ≡ w) vectors) ws →
    IsFrom test vectors best → IsFrom test vectors (best_of test vs ws best)
all_from test vectors [] ws best hvs hws h = h
all_from test vectors (v ∷ vs) ws best hvs hws h =
    all_from test vectors vs ws (best_with test v ws best) hvs.1 hws (row_from test vectors v ws best hvs.0 hws h)

without_best : (b : Bool) → (b && true) ≡ false → b ≡ false
without_best true h = h
without_best false h = h

found : (test : Marks → Marks → Bool) (vectors : List Vector) (best : Option Pair) → IsFrom test vectors best →
    Everywhere (λ v. Everywhere (λ w. IsBeaten test best v w) vectors) vectors → IsLeastPair widest test vectors best
found test vectors None from beaten =
    everywhere-map (λ v. Everywhere (λ w. IsBeaten test None v w) vectors) (λ v. Everywhere (λ w. test (marks v) (marks w) ≡ false) vectors)
    (λ v row. everywhere-map (λ w. IsBeaten test None v w) (λ w. test (marks v) (marks w) ≡ false)
    (λ w h. without_best (test (marks v) (marks w)) h) vectors row)
    vectors beaten
found test vectors (Some p) from beaten = (from, beaten)

best_is_least : (test : Marks → Marks → Bool) (vectors : List Vector) → IsLeastPair widest test vectors (best_of test vectors vectors None)
best_is_least test vectors =
    found test vectors (best_of test vectors vectors None)
    (all_from test vectors vectors vectors None (itself vectors) (itself vectors) tt)
    (all_beat test vectors vectors None)

-- over vectors with no mark from n on, the order of all bits is that of n conditions
pub same_order : (n : ℕ) (v w : Vector) → IsUnseenFrom n v → IsUnseenFrom n w → IsWord v → IsWord w →
    precedes widest (marks v) (marks w) ≡ precedes n (marks v) (marks w)
unfolding widest
same_order n v w off_v off_w word_v word_w =
    elim (leb_tells n 32) [
      | inl low ↦
          let h : n ≤ 32 = low.1 in
          let whole : n + (32 - n) ≡ 32 = omega arith in
          subst (λ m. precedes m (marks v) (marks w) ≡ precedes n (marks v) (marks w)) whole
          (narrowed n 0 (32 - n) (marks v) (marks w) (λ i past. unseen_alike (marks v) (marks w) i (off_v i (omega arith)) (off_w i (omega arith))))
      | inr high ↦
          let h : 32 < n = high.1 in
          let whole : 32 + (n - 32) ≡ n = omega arith in
          subst (λ m. precedes 32 (marks v) (marks w) ≡ precedes m (marks v) (marks w)) whole
          (sym (narrowed 32 0 (n - 32) (marks v) (marks w)
          (λ i past. unseen_alike (marks v) (marks w) i (unset_above v.seen i word_v (omega arith)) (unset_above w.seen i word_w (omega arith)))))
    ]

-- a vector has no mark from n on
abbrev pub IsNarrow : ℕ → Vector → Type 0
IsNarrow n v = IsUnseenFrom n v × IsWord v

same_pair_order : (n : ℕ) (v w f s : Vector) → IsNarrow n v → IsNarrow n w → IsNarrow n f → IsNarrow n s →
    pair_precedes widest (marks v) (marks w) (marks f) (marks s) ≡ pair_precedes n (marks v) (marks w) (marks f) (marks s)
same_pair_order n v w f s nv nw nf ns =
    ap (λ b. b || not (precedes widest (marks f) (marks v)) && precedes widest (marks w) (marks s)) (same_order n v f nv.0 nf.0 nv.1 nf.1)
    ∙ ap (λ b. precedes n (marks v) (marks f) || not b && precedes widest (marks w) (marks s)) (same_order n f v nf.0 nv.0 nf.1 nv.1)
    ∙ ap (λ b. precedes n (marks v) (marks f) || not (precedes n (marks f) (marks v)) && b) (same_order n w s nw.0 ns.0 nw.1 ns.1)

-- what holds of all items holds of two
pub everywhere_both : (P : Vector → Type 0) (Q R : Vector → Vector → Type 0) (xs ys : List Vector) → Everywhere P xs → Everywhere P ys →
    ((x y : Vector) → P x → P y → Q x y → R x y) → Everywhere (λ x. Everywhere (λ y. Q x y) ys) xs → Everywhere (λ x. Everywhere (λ y. R x y) ys) xs
everywhere_both P Q R [] ys hx hy f h = tt
everywhere_both P Q R (x ∷ xs) ys hx hy f h = (row ys hy h.0, everywhere_both P Q R xs ys hx.1 hy f h.1)
  where
    row : (ys : List Vector) → Everywhere P ys → Everywhere (λ y. Q x y) ys → Everywhere (λ y. R x y) ys
    row [] hy h = tt
    row (y ∷ ys) hy h = (f x y hx.0 hy.0 h.0, row ys hy.1 h.1)

-- so the least pair by all bits is the least pair by n conditions
pub narrow : (n : ℕ) (test : Marks → Marks → Bool) (vectors : List Vector) (answer : Option Pair) → Everywhere (IsNarrow n) vectors →
    IsLeastPair widest test vectors answer → IsLeastPair n test vectors answer
narrow n test vectors None all least = least
narrow n test vectors (Some p) all least =
    let first = everywhere-item (IsNarrow n) p.first vectors all least.0.has_first in
    let second = everywhere-item (IsNarrow n) p.second vectors all least.0.has_second in (
      least.0,
      everywhere_both (IsNarrow n)
          (λ v w. (test (marks v) (marks w) && pair_precedes widest (marks v) (marks w) (marks p.first) (marks p.second)) ≡ false)
          (λ v w. (test (marks v) (marks w) && pair_precedes n (marks v) (marks w) (marks p.first) (marks p.second)) ≡ false)
          vectors vectors all all
          (λ v w nv nw h. ap (λ b. test (marks v) (marks w) && b) (sym (same_pair_order n v w p.first p.second nv nw first second)) ∙ h)
          least.1,
    )

pub narrow_vectors : (e : Expr) (vectors : List Vector) → Everywhere (IsPathVector (graph e)) vectors → Everywhere IsWord vectors →
    Everywhere (IsNarrow (size e)) vectors
narrow_vectors e [] paths words = tt
narrow_vectors e (v ∷ vs) paths words = ((path-unseen e v paths.0, words.0), narrow_vectors e vs paths.1 words.1)

-- the search over the vectors of paths of a decision's graph answers the least pair
pub search_finds : (e : Expr) (test : Marks → Marks → Bool) (vectors : List Vector) → Everywhere (IsPathVector (graph e)) vectors →
    Everywhere IsWord vectors → IsLeastPair (size e) test vectors (best_of test vectors vectors None)
search_finds e test vectors paths words =
    narrow (size e) test vectors (best_of test vectors vectors None) (narrow_vectors e vectors paths words) (best_is_least test vectors)

-- ---- vectors that need not be tried

-- a row without a better pair leaves the best one
idle_row : (test : Marks → Marks → Bool) (v : Vector) (ws : List Vector) (best : Option Pair) →
    Everywhere (λ w. IsBeaten test best v w) ws → best_with test v ws best ≡ best
idle_row test v [] best none = refl
idle_row test v (w ∷ ws) best none =
    ap (λ (b : Option Pair). best_with test v ws b) (cond-false _ (Some (record { first = v; second = w })) best none.0)
    ∙ idle_row test v ws best none.1

never_both_ways : (a b : ℕ) → nat_lt a b ≡ true → nat_lt b a ≡ false
never_both_ways a b h = grind (arith, nat_tests)

-- vectors don't come before one another both ways round
pub one_way : (v w : Marks) → precedes widest v w ≡ true → precedes widest w v ≡ false
one_way v w h =
    by_keys 0 widest w v
    ∙ never_both_ways (key_from 0 widest v) (key_from 0 widest w) (sym (by_keys 0 widest v w) ∙ h)

neither_part : (a b c : Bool) → a ≡ false → b ≡ true → (a || not b && c) ≡ false
neither_part a b c h l =
    ap (λ x. x || not b && c) h ∙ ap (λ x. not x && c) l

behind_beaten : (test : Marks → Marks → Bool) (v w : Vector) (best : Option Pair) → is_behind v best ≡ true → IsBeaten test best v w
behind_beaten test v w None h = cc
behind_beaten test v w (Some p) h =
    no_part (test (marks v) (marks w)) (improves v w (Some p))
    (neither_part (precedes widest (marks v) (marks p.first)) (precedes widest (marks p.first) (marks v))
    (precedes widest (marks w) (marks p.second)) (one_way (marks p.first) (marks v) h) h)
  where
    no_part : (t i : Bool) → i ≡ false → (t && i) ≡ false
    no_part true i e = e
    no_part false i e = refl

each_of : (P : Vector → Type 0) → ((w : Vector) → P w) → (ws : List Vector) → Everywhere P ws
each_of P all [] = tt
each_of P all (w ∷ ws) = (all w, each_of P all ws)

pub behind_row : (test : Marks → Marks → Bool) (v : Vector) (ws : List Vector) (best : Option Pair) →
    is_behind v best ≡ true → best ≡ best_with test v ws best
behind_row test v ws best h = sym (idle_row test v ws best (each_of (λ w. IsBeaten test best v w) (λ w. behind_beaten test v w best h) ws))

refuted : (t : Bool) → (t ≡ true → ⊥) → t ≡ false
refuted true f = absurd (f refl)
refuted false f = refl

differ : (b : Bool) → b ≡ true → b ≡ false → ⊥
differ b is is_not = let h = sym is ∙ is_not in cc

first_part : (a b c : Bool) → (a && b && c) ≡ true → a ≡ true
first_part true b c h = refl
first_part false b c h = h

-- a vector in which the condition is masked is in no unique-cause pair
masked_no_cause : (e : Expr) (c : ℕ) (v w : Vector) → IsPathVector (graph e) v → IsPathVector (graph e) w → unmasked e (marks v) c ≡ false
    → is_unique_cause e c (marks v) (marks w) ≡ false
masked_no_cause e c v w path_v path_w masked =
    refuted (is_unique_cause e c (marks v) (marks w))
    (λ cause. differ (unmasked e (marks v) c)
    (first_part (unmasked e (marks v) c) (unmasked e (marks w) c) (not (same (bit v.value c) (bit w.value c))) (unique_masks e c v w path_v path_w cause))
    masked)

pub masked_row : (e : Expr) (c : ℕ) (v : Vector) (ws : List Vector) (best : Option Pair) → IsPathVector (graph e) v → Everywhere (IsPathVector (graph e)) ws →
    unmasked e (marks v) c ≡ false → best ≡ best_with (is_unique_cause e c) v ws best
masked_row e c v ws best path_v paths masked =
    sym (idle_row (is_unique_cause e c) v ws best
    (everywhere-map (IsPathVector (graph e)) (λ w. IsBeaten (is_unique_cause e c) best v w)
    (λ w path_w. no_part (is_unique_cause e c (marks v) (marks w)) (improves v w best) (masked_no_cause e c v w path_v path_w masked)) ws paths))
  where
    no_part : (t i : Bool) → t ≡ false → (t && i) ≡ false
    no_part true i h = cc
    no_part false i h = refl

-- where there is no masking pair, there is no unique-cause pair
pub no_cause_pair : (e : Expr) (c : ℕ) (vectors : List Vector) → Everywhere (IsPathVector (graph e)) vectors →
    IsLeastPair (size e) (is_masking e c) vectors None → IsLeastPair (size e) (is_unique_cause e c) vectors None
no_cause_pair e c vectors paths none =
    everywhere_both (IsPathVector (graph e)) (λ v w. is_masking e c (marks v) (marks w) ≡ false) (λ v w. is_unique_cause e c (marks v) (marks w) ≡ false)
    vectors vectors paths paths
    (λ v w path_v path_w fails. refuted (is_unique_cause e c (marks v) (marks w))
    (λ cause. differ (is_masking e c (marks v) (marks w)) (unique_masks e c v w path_v path_w cause) fails)) none
