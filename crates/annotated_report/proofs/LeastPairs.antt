-- The least pair is one that passes and that no pair that passes comes before, and its text is one.
use Rattle.std.proofs.Common.{◌≡◌, ℕ, zero, suc, Bool, true, false, not, ◌&&◌, ◌||◌, List, [], ◌∷◌, ◌++◌, map, Option, Some, None, refl, sym, ap, ◌∙◌, subst, inl, inr, arith, nat_lt, nat_eq, filter, ◌⊎◌}
use Rattle.std.proofs.lemmas.Bool.{cond-true, cond-false, cases_Bool}
use Rattle.std.proofs.lemmas.Bool.Decides.{nat_tests}
use Rattle.cov_base.specs.declared.event.Vector.{Vector}
use Rattle.cov_base.specs.Marks.{Marks, marks, rank, precedes_from, precedes}
use Rattle.cov_base.specs.Lists.{Everywhere, Somewhere}
use Rattle.decision_meaning.specs.Pair.{Pair, pair_precedes, IsLeastPair}
use Rattle.mcdc_verdicts.proofs.Lists.{everywhere-map, everywhere-item}
use Rattle.mcdc_verdicts.proofs.Ordering.{pair-transitive, pair-irreflexive}
use Rattle.annotated_report.specs.declared.finding.Key.{Key}
use Rattle.annotated_report.specs.LeastPair.{pair, pairs_of, lesser, least, least_pair}
use Rattle.annotated_report.specs.Findings.{pair_finding}
use Rattle.annotated_report.specs.declared.finding.PairLine.{PairLine}
use Rattle.annotated_report.specs.Shown.{letter_of, vector_from, vector_text, pair_text, pair_line}

abbrev sooner : ℕ → Pair → Pair → Bool
sooner n p q = pair_precedes n (marks p.first) (marks p.second) (marks q.first) (marks q.second)

clash : (b : Bool) → b ≡ true → b ≡ false → ⊥
clash b x y = let h = sym x ∙ y in cc

not_so : (b : Bool) → (b ≡ true → ⊥) → b ≡ false
not_so true f = absurd (f refl)
not_so false f = refl

-- one of these, before which none of them comes; none where there are none
abbrev IsLeast : ℕ → List Pair → Option Pair → Type 0
IsLeast n ps None = Everywhere (λ q. ⊥) ps
IsLeast n ps (Some p) = Somewhere (λ q. q ≡ p) ps × Everywhere (λ q. sooner n q p ≡ false) ps

never : (n : ℕ) (p q r : Pair) → sooner n q r ≡ false → sooner n p r ≡ true → sooner n q p ≡ false
never n p q r h l =
    not_so (sooner n q p)
    (λ e. clash (sooner n q r) (pair-transitive n (marks q.first) (marks q.second) (marks p.first) (marks p.second) (marks r.first) (marks r.second) e l) h)

itself : (n : ℕ) (p : Pair) → sooner n p p ≡ false
itself n p = pair-irreflexive n (marks p.first) (marks p.second)

lesser_is : (n : ℕ) (p : Pair) (ps : List Pair) (best : Option Pair) → IsLeast n ps best → IsLeast n (p ∷ ps) (lesser n p best)
lesser_is n p ps None h = (inl refl, (itself n p, everywhere-map (λ q. ⊥) (λ q. sooner n q p ≡ false) (λ q e. absurd e) ps h))
lesser_is n p ps (Some best) h =
    elim (cases_Bool (sooner n p best)) [
      | inl less ↦
          subst (IsLeast n (p ∷ ps)) (sym (cond-true _ (Some p) (Some best) less))
          (inl refl, (itself n p, everywhere-map (λ q. sooner n q best ≡ false) (λ q. sooner n q p ≡ false) (λ q e. never n p q best e less) ps h.1))
      | inr more ↦ subst (IsLeast n (p ∷ ps)) (sym (cond-false _ (Some p) (Some best) more)) (inr h.0, (more, h.1))
    ]

least_is : (n : ℕ) (ps : List Pair) → IsLeast n ps (least n ps)
least_is n [] = tt
least_is n (p ∷ ps) = lesser_is n p ps (least n ps) (least_is n ps)

-- ---- of pairs that pass, to vectors

everywhere_passing : (t : Pair → Bool) (P : Pair → Type 0) (ps : List Pair) → Everywhere P (filter t ps) → Everywhere (λ q. t q ≡ true → P q) ps
everywhere_passing t P [] h = tt
everywhere_passing t P (p ∷ ps) h =
    elim (cases_Bool (t p)) [
      | inl passes ↦ let k = subst (Everywhere P) (cond-true (t p) _ _ passes) h in ((λ e. k.0), everywhere_passing t P ps k.1)
      | inr fails ↦
          ((λ e. absurd (clash (t p) e fails)), everywhere_passing t P ps (subst (Everywhere P) (cond-false (t p) _ _ fails) h))
    ]

somewhere_passing : (t : Pair → Bool) (p : Pair) (ps : List Pair) → Somewhere (λ q. q ≡ p) (filter t ps) → (t p ≡ true) × Somewhere (λ q. q ≡ p) ps
somewhere_passing t p [] h = absurd h
somewhere_passing t p (q ∷ ps) h =
    elim (cases_Bool (t q)) [
      | inl passes ↦
          elim (subst (Somewhere (λ r. r ≡ p)) (cond-true (t q) _ _ passes) h) [
            | inl e ↦ (ap t (sym e) ∙ passes, inl e)
            | inr there ↦ let k = somewhere_passing t p ps there in (k.0, inr k.1)
          ]
      | inr fails ↦ let k = somewhere_passing t p ps (subst (Somewhere (λ r. r ≡ p)) (cond-false (t q) _ _ fails) h) in (k.0, inr k.1)
    ]

everywhere_split : {X : Type 0} (P : X → Type 0) (xs ys : List X) → Everywhere P (xs ++ ys) → Everywhere P xs × Everywhere P ys
everywhere_split P [] ys h = (tt, h)
everywhere_split P (x ∷ xs) ys h = let k = everywhere_split P xs ys h.1 in ((h.0, k.0), k.1)

somewhere_split : {X : Type 0} (P : X → Type 0) (xs ys : List X) → Somewhere P (xs ++ ys) → Somewhere P xs ⊎ Somewhere P ys
somewhere_split P [] ys h = inr h
somewhere_split P (x ∷ xs) ys h =
    elim h [
      | inl here ↦ inl (inl here)
      | inr there ↦ elim (somewhere_split P xs ys there) [ inl left ↦ inl (inr left) | inr right ↦ inr right ]
    ]

row_everywhere : (P : Pair → Type 0) (v : Vector) (ws : List Vector) → Everywhere P (map (pair v) ws) → Everywhere (λ w. P (pair v w)) ws
row_everywhere P v [] h = tt
row_everywhere P v (w ∷ ws) h = (h.0, row_everywhere P v ws h.1)

row_somewhere : (p : Pair) (v : Vector) (ws : List Vector) → Somewhere (λ q. q ≡ p) (map (pair v) ws) → (v ≡ p.first) × Somewhere (λ w. w ≡ p.second) ws
row_somewhere p v [] h = absurd h
row_somewhere p v (w ∷ ws) h =
    elim h [
      | inl e ↦ (ap (λ (q : Pair). q.first) e, inl (ap (λ (q : Pair). q.second) e))
      | inr there ↦ let k = row_somewhere p v ws there in (k.0, inr k.1)
    ]

all_everywhere : (P : Pair → Type 0) (vs ws : List Vector) → Everywhere P (pairs_of vs ws) → Everywhere (λ v. Everywhere (λ w. P (pair v w)) ws) vs
all_everywhere P [] ws h = tt
all_everywhere P (v ∷ vs) ws h =
    let k = everywhere_split P (map (pair v) ws) (pairs_of vs ws) h in (row_everywhere P v ws k.0, all_everywhere P vs ws k.1)

all_somewhere : (p : Pair) (vs ws : List Vector) → Somewhere (λ q. q ≡ p) (pairs_of vs ws) → Somewhere (λ v. v ≡ p.first) vs × Somewhere (λ w. w ≡ p.second) ws
all_somewhere p [] ws h = absurd h
all_somewhere p (v ∷ vs) ws h =
    elim (somewhere_split (λ q. q ≡ p) (map (pair v) ws) (pairs_of vs ws) h) [
      | inl row ↦ let k = row_somewhere p v ws row in (inl k.0, k.1)
      | inr rest ↦ let k = all_somewhere p vs ws rest in (inr k.0, k.1)
    ]

both_fail : (t s : Bool) → (t ≡ true → s ≡ false) → (t && s) ≡ false
both_fail true s f = f refl
both_fail false s f = refl

least_from : (n : ℕ) (test : Marks → Marks → Bool) (vectors : List Vector) (answer : Option Pair) →
    IsLeast n (filter (λ p. test (marks p.first) (marks p.second)) (pairs_of vectors vectors)) answer → IsLeastPair n test vectors answer
least_from n test vectors None h =
    let t : Pair → Bool = λ p. test (marks p.first) (marks p.second) in
    let all = all_everywhere (λ q. t q ≡ true → ⊥) vectors vectors (everywhere_passing t (λ q. ⊥) (pairs_of vectors vectors) h) in
    everywhere-map (λ v. Everywhere (λ w. t (pair v w) ≡ true → ⊥) vectors) (λ v. Everywhere (λ w. test (marks v) (marks w) ≡ false) vectors)
    (λ v row. everywhere-map (λ w. t (pair v w) ≡ true → ⊥) (λ w. test (marks v) (marks w) ≡ false) (λ w f. not_so (test (marks v) (marks w)) f) vectors row)
    vectors all
least_from n test vectors (Some p) h =
    let t : Pair → Bool = λ q. test (marks q.first) (marks q.second) in
    let in_list = somewhere_passing t p (pairs_of vectors vectors) h.0 in
    let parts = all_somewhere p vectors vectors in_list.1 in
    let all = all_everywhere (λ q. t q ≡ true → sooner n q p ≡ false) vectors vectors
    (everywhere_passing t (λ q. sooner n q p ≡ false) (pairs_of vectors vectors) h.1) in (
      record { has_first = parts.0; has_second = parts.1; passes = in_list.0 },
      everywhere-map (λ v. Everywhere (λ w. t (pair v w) ≡ true → sooner n (pair v w) p ≡ false) vectors)
          (λ v. Everywhere (λ w. (test (marks v) (marks w) && pair_precedes n (marks v) (marks w) (marks p.first) (marks p.second)) ≡ false) vectors)
          (λ v row. everywhere-map (λ w. t (pair v w) ≡ true → sooner n (pair v w) p ≡ false)
          (λ w. (test (marks v) (marks w) && pair_precedes n (marks v) (marks w) (marks p.first) (marks p.second)) ≡ false)
          (λ w f. both_fail (test (marks v) (marks w)) (sooner n (pair v w) p) f) vectors row)
          vectors all,
    )

-- the pair that a report shows is the least one
pub least_pair_is : (n : ℕ) (test : Marks → Marks → Bool) (vectors : List Vector) → IsLeastPair n test vectors (least_pair n test vectors)
least_pair_is n test vectors =
    least_from n test vectors (least_pair n test vectors)
    (least_is n (filter (λ p. test (marks p.first) (marks p.second)) (pairs_of vectors vectors)))

-- ---- the text of a least pair is one

none_before : (a b : ℕ) (p q : Bool) → (nat_lt a b || nat_eq a b && p) ≡ false → (nat_lt b a || nat_eq b a && q) ≡ false → (a ≡ b) × (p ≡ false) × (q ≡ false)
none_before a b p q h l = grind (arith, nat_tests)

pub same_text : (n c : ℕ) (v w : Marks) → precedes_from c n v w ≡ false → precedes_from c n w v ≡ false → vector_from c n v ≡ vector_from c n w
same_text zero c v w h l = refl
same_text (suc n) c v w h l =
    let k = none_before (rank v c) (rank w c) (precedes_from (suc c) n v w) (precedes_from (suc c) n w v) h l in
    ap (λ r. letter_of r ∷ vector_from (suc c) n v) k.0 ∙ ap (λ xs. letter_of (rank w c) ∷ xs) (same_text n (suc c) v w k.1 k.2)

neither_before : (a b c d : Bool) → (a || not b && c) ≡ false → (b || not a && d) ≡ false → (a ≡ false) × (b ≡ false) × (c ≡ false) × (d ≡ false)
neither_before true b c d h l = cc
neither_before false true c d h l = cc
neither_before false false c d h l = (refl, refl, h, l)

-- the texts of the two vectors of a pair
abbrev pub pair_texts : ℕ → Pair → List ℕ × List ℕ
pair_texts n p = (vector_text n p.first, vector_text n p.second)

same_pair_texts : (n : ℕ) (p q : Pair) → sooner n p q ≡ false → sooner n q p ≡ false → pair_texts n p ≡ pair_texts n q
same_pair_texts n p q h l =
    let k = neither_before (precedes n (marks p.first) (marks q.first)) (precedes n (marks q.first) (marks p.first))
    (precedes n (marks p.second) (marks q.second)) (precedes n (marks q.second) (marks p.second)) h l in
    ap (λ v. (v, vector_text n p.second)) (same_text n 0 (marks p.first) (marks q.first) k.0 k.1)
    ∙ ap (λ w. (vector_text n q.first, w)) (same_text n 0 (marks p.second) (marks q.second) k.2 k.3)

at_pair : (P : Vector → Vector → Type 0) (vectors : List Vector) (v w : Vector) → Everywhere (λ v. Everywhere (λ w. P v w) vectors) vectors
    → Somewhere (λ x. x ≡ v) vectors → Somewhere (λ x. x ≡ w) vectors → P v w
at_pair P vectors v w all at_v at_w =
    everywhere-item (λ w. P v w) w vectors (everywhere-item (λ v. Everywhere (λ w. P v w) vectors) v vectors all at_v) at_w

after : (a b : Bool) → a ≡ true → (a && b) ≡ false → b ≡ false
after true b e h = h
after false b e h = cc

abbrev pub option_texts : ℕ → Option Pair → Option (List ℕ × List ℕ)
option_texts n None = None
option_texts n (Some p) = Some (pair_texts n p)

-- two least pairs of one list tell the same two vectors
pub same_shown_texts : (n : ℕ) (test : Marks → Marks → Bool) (vectors : List Vector) (a b : Option Pair) →
    IsLeastPair n test vectors a → IsLeastPair n test vectors b → option_texts n a ≡ option_texts n b
same_shown_texts n test vectors None None h l = refl
same_shown_texts n test vectors None (Some q) h l =
    absurd (clash (test (marks q.first) (marks q.second)) l.0.passes
    (at_pair (λ v w. test (marks v) (marks w) ≡ false) vectors q.first q.second h l.0.has_first l.0.has_second))
same_shown_texts n test vectors (Some p) None h l =
    absurd (clash (test (marks p.first) (marks p.second)) h.0.passes
    (at_pair (λ v w. test (marks v) (marks w) ≡ false) vectors p.first p.second l h.0.has_first h.0.has_second))
same_shown_texts n test vectors (Some p) (Some q) h l =
    let p_first = after (test (marks p.first) (marks p.second)) (sooner n p q) h.0.passes
    (at_pair (λ v w. (test (marks v) (marks w) && pair_precedes n (marks v) (marks w) (marks q.first) (marks q.second)) ≡ false) vectors p.first p.second l.1 h.0.has_first h.0.has_second) in
    let q_first = after (test (marks q.first) (marks q.second)) (sooner n q p) l.0.passes
    (at_pair (λ v w. (test (marks v) (marks w) && pair_precedes n (marks v) (marks w) (marks p.first) (marks p.second)) ≡ false) vectors q.first q.second h.1 l.0.has_first l.0.has_second) in
    ap Some (same_pair_texts n p q p_first q_first)

abbrev joined_text : Option (List ℕ × List ℕ) → Option (List ℕ)
joined_text None = None
joined_text (Some texts) = Some (texts.0 ++ 32 ∷ texts.1)

abbrev pub option_text : ℕ → Option Pair → Option (List ℕ)
option_text n None = None
option_text n (Some p) = Some (pair_text n p)

joined : (n : ℕ) (a : Option Pair) → joined_text (option_texts n a) ≡ option_text n a
joined n None = refl
joined n (Some p) = refl

-- so they have one text
pub one_text : (n : ℕ) (a b : Option Pair) → option_texts n a ≡ option_texts n b → option_text n a ≡ option_text n b
one_text n a b same = sym (joined n a) ∙ ap joined_text same ∙ joined n b

pub same_shown : (n : ℕ) (test : Marks → Marks → Bool) (vectors : List Vector) (a b : Option Pair) →
    IsLeastPair n test vectors a → IsLeastPair n test vectors b → option_text n a ≡ option_text n b
same_shown n test vectors a b h l = one_text n a b (same_shown_texts n test vectors a b h l)

-- pairs with one text have one line, and are there both or neither
pub same_line : (n : ℕ) (key : Key) (a b : Option Pair) → option_text n a ≡ option_text n b → pair_line n key a ≡ pair_line n key b
same_line n key None None h = refl
same_line n key None (Some q) h = cc
same_line n key (Some p) None h = cc
same_line n key (Some p) (Some q) h =
    let e : pair_text n p ≡ pair_text n q = cc in
    let line : List ℕ → List PairLine = λ text. record { key = key; text = text } ∷ [] in
    ap line e

pub same_finding : (n : ℕ) (covered : Bool) (key : Key) (a b : Option Pair) → option_text n a ≡ option_text n b → pair_finding covered key a ≡ pair_finding covered key b
same_finding n covered key None None h = refl
same_finding n covered key None (Some q) h = cc
same_finding n covered key (Some p) None h = cc
same_finding n covered key (Some p) (Some q) h = refl
