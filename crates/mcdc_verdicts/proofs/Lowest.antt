-- The least vectors in which a condition is unmasked, one for each value, are the least masking pair.
use Rattle.std.proofs.Common.{◌≡◌, ℕ, inl, inr, ◌||◌, Bool, true, false, not, ◌&&◌, List, [], ◌∷◌, Option, Some, None, refl, ap, subst, sym, ◌∙◌, arith, nat_lt, if◌then◌else◌}
use Rattle.std.proofs.lemmas.Bool.{cond-true, cond-false, cases_Bool}
use Rattle.std.proofs.lemmas.Bool.Decides.{nat_tests}
use Rattle.cov_base.specs.declared.event.Vector.{Vector}
use Rattle.cov_base.specs.Expr.{Expr, size}
use Rattle.cov_base.specs.Graph.{graph}
use Rattle.cov_base.specs.Marks.{Marks, marks, bit, same, precedes}
use Rattle.decision_meaning.specs.Unmasked.{unmasked}
use Rattle.cov_base.specs.Lists.{Everywhere, Somewhere}
use Rattle.decision_meaning.specs.Pair.{Pair, pair_precedes, is_masking, IsLeastPair}
use Rattle.cov_base.specs.Path.{IsPathVector}
use Rattle.mcdc_verdicts.specs.Search.{widest, IsWord, shows, precedes_least, lower, lowest, pair_of}
use Rattle.mcdc_verdicts.proofs.Lists.{itself}
use Rattle.mcdc_verdicts.proofs.Ordering.{key_from, by_keys, pairs_by_keys}
use Rattle.mcdc_verdicts.proofs.Searching.{narrow, narrow_vectors}

-- the place of a vector in the order
abbrev key : Vector → ℕ
key v = key_from 0 widest (marks v)

sooner : (v w : Vector) → precedes widest (marks v) (marks w) ≡ nat_lt (key v) (key w)
sooner v w = by_keys 0 widest (marks v) (marks w)

-- v doesn't pass, or doesn't come before the least vector
abbrev IsHigher : (test : Marks → Bool) → Option Vector → Vector → Type 0
IsHigher test least v = (test (marks v) && precedes_least v least) ≡ false

-- the least vector is of the list, and passes
abbrev IsFrom : (test : Marks → Bool) → List Vector → Option Vector → Type 0
IsFrom test vectors None = Unit {0}
IsFrom test vectors (Some least) = Somewhere (λ x. x ≡ least) vectors × (test (marks least) ≡ true)

by_keys_before : (a b c : ℕ) → nat_lt a b ≡ true → nat_lt b c ≡ true → nat_lt a c ≡ true
by_keys_before a b c h l = grind (arith, nat_tests)

not_before : (a : ℕ) → nat_lt a a ≡ false
not_before a = grind (arith, nat_tests)

sooner_still : (x v : Vector) (least : Option Vector) → precedes widest (marks x) (marks v) ≡ true → precedes_least v least ≡ true → precedes_least x least ≡ true
sooner_still x v None h l = refl
sooner_still x v (Some w) h l =
    sooner x w ∙ by_keys_before (key x) (key v) (key w) (sym (sooner x v) ∙ h) (sym (sooner v w) ∙ l)

still : (t was now : Bool) → (now ≡ true → was ≡ true) → (t && was) ≡ false → (t && now) ≡ false
still false was now f h = refl
still true was false f h = refl
still true was true f h = sym (f refl) ∙ h

first_of : (a b : Bool) → (a && b) ≡ true → a ≡ true
first_of true b h = refl
first_of false b h = h

second_of : (a b : Bool) → (a && b) ≡ true → b ≡ true
second_of true b h = h
second_of false b h = cc

-- what was higher stays so when a vector is met
higher_by_choice : (test : Marks → Bool) (x v : Vector) (least : Option Vector) (b : Bool) → (b ≡ true → precedes_least v least ≡ true)
    → IsHigher test least x → IsHigher test (if b then Some v else least) x
higher_by_choice test x v least true lower h =
    still (test (marks x)) (precedes_least x least) (precedes_least x (Some v)) (λ e. sooner_still x v least e (lower refl)) h
higher_by_choice test x v least false lower h = h

keeps : (test : Marks → Bool) (x v : Vector) (least : Option Vector) → IsHigher test least x → IsHigher test (lower test v least) x
keeps test x v least h =
    higher_by_choice test x v least (precedes_least v least && test (marks v)) (first_of (precedes_least v least) (test (marks v))) h

-- and the vector that is met is higher
met_choice : (v : Vector) (least : Option Vector) (t p : Bool) → precedes_least v least ≡ p → (t && precedes_least v (if p && t then Some v else least)) ≡ false
met_choice v least false p e = refl
met_choice v least true true e = sooner v v ∙ not_before (key v)
met_choice v least true false e = e

met : (test : Marks → Bool) (v : Vector) (least : Option Vector) → IsHigher test (lower test v least) v
met test v least = met_choice v least (test (marks v)) (precedes_least v least) refl

all_keep : (test : Marks → Bool) (x : Vector) (vs : List Vector) (least : Option Vector) → IsHigher test least x → IsHigher test (lowest test vs least) x
all_keep test x [] least h = h
all_keep test x (v ∷ vs) least h = all_keep test x vs (lower test v least) (keeps test x v least h)

all_higher : (test : Marks → Bool) (vs : List Vector) (least : Option Vector) → Everywhere (IsHigher test (lowest test vs least)) vs
all_higher test [] least = tt
all_higher test (v ∷ vs) least = (all_keep test v vs (lower test v least) (met test v least), all_higher test vs (lower test v least))

from_choice : (test : Marks → Bool) (vectors : List Vector) (v : Vector) (least : Option Vector) (p t : Bool) → t ≡ test (marks v)
    → Somewhere (λ x. x ≡ v) vectors → IsFrom test vectors least → IsFrom test vectors (if p && t then Some v else least)
from_choice test vectors v least true true e there h = (there, sym e)
from_choice test vectors v least true false e there h = h
from_choice test vectors v least false t e there h = h

all_from : (test : Marks → Bool) (vectors vs : List Vector) (least : Option Vector) → Everywhere (λ v. Somewhere (λ x. x ≡ v) vectors) vs
    → IsFrom test vectors least → IsFrom test vectors (lowest test vs least)
all_from test vectors [] least there h = h
all_from test vectors (v ∷ vs) least there h =
    all_from test vectors vs (lower test v least) there.1
    (from_choice test vectors v least (precedes_least v least) (test (marks v)) refl there.0 h)

-- ---- of two least vectors, to the least pair

none_low : (uv uw av aw : Bool) → (same av false && uv && true) ≡ false → (same aw false && uw && true) ≡ false → (uv && uw && not (same av aw)) ≡ false
none_low false uw av aw h l = refl
none_low true false av aw h l = refl
none_low true true true true h l = refl
none_low true true true false h l = l
none_low true true false aw h l = absurd (cc h)

none_high : (uv uw av aw : Bool) → (same av true && uv && true) ≡ false → (same aw true && uw && true) ≡ false → (uv && uw && not (same av aw)) ≡ false
none_high false uw av aw h l = refl
none_high true false av aw h l = refl
none_high true true false false h l = refl
none_high true true false true h l = l
none_high true true true aw h l = absurd (cc h)

-- no pair of v and w comes before the one of the two least vectors f and t, whose lesser one is t
none_before_turned : (uv uw av aw : Bool) (v w f t : ℕ) → (same av false && uv && nat_lt v f) ≡ false → (same av true && uv && nat_lt v t) ≡ false
    → (same aw false && uw && nat_lt w f) ≡ false → (same aw true && uw && nat_lt w t) ≡ false → nat_lt t f ≡ true
    → (uv && uw && not (same av aw) && (nat_lt v t || not (nat_lt t v) && nat_lt w f)) ≡ false
none_before_turned false uw av aw v w f t h l k m less = refl
none_before_turned true false av aw v w f t h l k m less = refl
none_before_turned true true true true v w f t h l k m less = refl
none_before_turned true true false false v w f t h l k m less = refl
none_before_turned true true true false v w f t h l k m less = grind (arith, nat_tests)
none_before_turned true true false true v w f t h l k m less = grind (arith, nat_tests)

-- the same where the lesser one is f
none_before : (uv uw av aw : Bool) (v w f t : ℕ) → (same av false && uv && nat_lt v f) ≡ false → (same av true && uv && nat_lt v t) ≡ false
    → (same aw false && uw && nat_lt w f) ≡ false → (same aw true && uw && nat_lt w t) ≡ false → nat_lt t f ≡ false
    → (uv && uw && not (same av aw) && (nat_lt v f || not (nat_lt f v) && nat_lt w t)) ≡ false
none_before false uw av aw v w f t h l k m more = refl
none_before true false av aw v w f t h l k m more = refl
none_before true true true true v w f t h l k m more = refl
none_before true true false false v w f t h l k m more = refl
none_before true true true false v w f t h l k m more = grind (arith, nat_tests)
none_before true true false true v w f t h l k m more = grind (arith, nat_tests)

shown_pair : (uf ut af at : Bool) → (same af false && uf) ≡ true → (same at true && ut) ≡ true → (uf && ut && not (same af at)) ≡ true
shown_pair true true false true h l = refl
shown_pair true true true at h l = cc
shown_pair true true false false h l = cc
shown_pair true false af true h l = cc
shown_pair true false af false h l = cc
shown_pair false ut true at h l = cc
shown_pair false ut false at h l = cc

shown_turned : (uf ut af at : Bool) → (same af false && uf) ≡ true → (same at true && ut) ≡ true → (ut && uf && not (same at af)) ≡ true
shown_turned true true false true h l = refl
shown_turned true true true at h l = cc
shown_turned true true false false h l = cc
shown_turned true false af true h l = cc
shown_turned true false af false h l = cc
shown_turned false ut true at h l = cc
shown_turned false ut false at h l = cc

module _ (e : Expr) (c : ℕ) (vectors : List Vector) where
  abbrev low : Marks → Bool
  low = shows e c false

  abbrev high : Marks → Bool
  high = shows e c true

  abbrev pairs : Marks → Marks → Bool
  pairs = is_masking e c

  higher_by_key : (value : Bool) (v b : Vector) → IsHigher (shows e c value) (Some b) v → (same (bit v.value c) value && unmasked e (marks v) c && nat_lt (key v) (key b)) ≡ false
  higher_by_key value v b h = ap (λ x. shows e c value (marks v) && x) (sym (sooner v b)) ∙ h

  both_ways : (P Q : Vector → Type 0) → (R : Vector → Vector → Type 0) → ((v w : Vector) → P v → Q v → P w → Q w → R v w)
      → Everywhere P vectors → Everywhere Q vectors → Everywhere (λ v. Everywhere (λ w. R v w) vectors) vectors
  both_ways P Q R f ps qs = over vectors ps qs
    where
      row : (v : Vector) → P v → Q v → (ws : List Vector) → Everywhere P ws → Everywhere Q ws → Everywhere (λ w. R v w) ws
      row v p q [] ps qs = tt
      row v p q (w ∷ ws) ps qs = (f v w p q ps.0 qs.0, row v p q ws ps.1 qs.1)

      over : (vs : List Vector) → Everywhere P vs → Everywhere Q vs → Everywhere (λ v. Everywhere (λ w. R v w) vectors) vs
      over [] ps' qs' = tt
      over (v ∷ vs) ps' qs' = (row v ps'.0 qs'.0 vectors ps qs, over vs ps'.1 qs'.1)

  abbrev IsBefore : (v w first second : Vector) → Type 0
  IsBefore v w first second = (pairs (marks v) (marks w) && pair_precedes widest (marks v) (marks w) (marks first) (marks second)) ≡ false

  turned_least : (f t : Vector) → nat_lt (key t) (key f) ≡ true → (v w : Vector) → IsHigher low (Some f) v → IsHigher high (Some t) v → IsHigher low (Some f) w → IsHigher high (Some t) w
      → IsBefore v w t f
  turned_least f t less v w h l k m =
      ap (λ x. pairs (marks v) (marks w) && x) (pairs_by_keys widest (marks v) (marks w) (marks t) (marks f))
      ∙ none_before_turned (unmasked e (marks v) c) (unmasked e (marks w) c) (bit v.value c) (bit w.value c) (key v) (key w) (key f) (key t)
      (higher_by_key false v f h) (higher_by_key true v t l) (higher_by_key false w f k) (higher_by_key true w t m) less

  straight_least : (f t : Vector) → nat_lt (key t) (key f) ≡ false → (v w : Vector) → IsHigher low (Some f) v → IsHigher high (Some t) v → IsHigher low (Some f) w → IsHigher high (Some t) w
      → IsBefore v w f t
  straight_least f t more v w h l k m =
      ap (λ x. pairs (marks v) (marks w) && x) (pairs_by_keys widest (marks v) (marks w) (marks f) (marks t))
      ∙ none_before (unmasked e (marks v) c) (unmasked e (marks w) c) (bit v.value c) (bit w.value c) (key v) (key w) (key f) (key t)
      (higher_by_key false v f h) (higher_by_key true v t l) (higher_by_key false w f k) (higher_by_key true w t m) more

  joined : (f t : Option Vector) → IsFrom low vectors f → IsFrom high vectors t → Everywhere (IsHigher low f) vectors → Everywhere (IsHigher high t) vectors
      → IsLeastPair widest pairs vectors (pair_of f t)
  joined None t from_f from_t all_f all_t =
      both_ways (IsHigher low None) (IsHigher low None) (λ v w. pairs (marks v) (marks w) ≡ false)
      (λ v w h _ l _. none_low (unmasked e (marks v) c) (unmasked e (marks w) c) (bit v.value c) (bit w.value c) h l) all_f all_f
  joined (Some f) None from_f from_t all_f all_t =
      both_ways (IsHigher high None) (IsHigher high None) (λ v w. pairs (marks v) (marks w) ≡ false)
      (λ v w h _ l _. none_high (unmasked e (marks v) c) (unmasked e (marks w) c) (bit v.value c) (bit w.value c) h l) all_t all_t
  joined (Some f) (Some t) from_f from_t all_f all_t =
      elim (cases_Bool (precedes widest (marks t) (marks f))) [
        | inl less ↦
            subst (λ (p : Pair). IsLeastPair widest pairs vectors (Some p)) (sym (cond-true _ (record { first = t; second = f }) (record { first = f; second = t }) less)) (
              record {
                has_first = from_t.0;
                has_second = from_f.0;
                passes = shown_turned (unmasked e (marks f) c) (unmasked e (marks t) c) (bit f.value c) (bit t.value c) from_f.1 from_t.1;
              },
              both_ways (IsHigher low (Some f)) (IsHigher high (Some t)) (λ v w. IsBefore v w t f)
                  (turned_least f t (sym (sooner t f) ∙ less)) all_f all_t,
            )
        | inr more ↦
            subst (λ (p : Pair). IsLeastPair widest pairs vectors (Some p)) (sym (cond-false _ (record { first = t; second = f }) (record { first = f; second = t }) more)) (
              record {
                has_first = from_f.0;
                has_second = from_t.0;
                passes = shown_pair (unmasked e (marks f) c) (unmasked e (marks t) c) (bit f.value c) (bit t.value c) from_f.1 from_t.1;
              },
              both_ways (IsHigher low (Some f)) (IsHigher high (Some t)) (λ v w. IsBefore v w f t)
                  (straight_least f t (sym (sooner t f) ∙ more)) all_f all_t,
            )
      ]

-- the least unmasked vectors of both values are the least masking pair
pub lowest_pair : (e : Expr) (c : ℕ) (vectors : List Vector) → Everywhere (IsPathVector (graph e)) vectors → Everywhere IsWord vectors
    → IsLeastPair (size e) (is_masking e c) vectors (pair_of (lowest (shows e c false) vectors None) (lowest (shows e c true) vectors None))
lowest_pair e c vectors paths words =
    let f = lowest (shows e c false) vectors None in
    let t = lowest (shows e c true) vectors None in
    narrow (size e) (is_masking e c) vectors (pair_of f t) (narrow_vectors e vectors paths words)
    (joined e c vectors f t (all_from (shows e c false) vectors vectors None (itself vectors) tt) (all_from (shows e c true) vectors vectors None (itself vectors) tt)
    (all_higher (shows e c false) vectors None) (all_higher (shows e c true) vectors None))
