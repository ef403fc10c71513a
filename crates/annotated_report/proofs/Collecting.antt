-- Vectors that are collected by decision.
use Rattle.std.proofs.Common.{◌≡◌, ℕ, ◌+◌, ◌<◌, false, List, [], ◌∷◌, ◌++◌, length, drop, slice_set, nat_lt, ◌==◌, refl, sym, ap, ◌∙◌, arith, if◌then◌else◌, inl, inr, ◌≤◌, Option, Some, None}
use Rattle.std.proofs.lemmas.Bool.{cases_Bool, eqb-false}
use borrow.Author.Tests.{eqb-true, ltb-true, ltb-false}
use Rattle.std.proofs.lemmas.List.{get_or-set_other}
use Rattle.std.proofs.lemmas.Grind.{get_or-set_at}
use Rattle.std.proofs.lemmas.List.{append_assoc}
use Rattle.std.specs.List.{cons_option}
use Rattle.cov_base.specs.declared.event.Event.{Event}
use Rattle.cov_base.specs.declared.event.Vector.{Vector}
use Rattle.annotated_report.specs.Marked.{collected}
use Rattle.annotated_report.specs.Verdicts.{vector_in, vectors_of}

not_same : (i d : ℕ) → (i ≡ d → ⊥) → (i == d) ≡ false
not_same i d f = elim (cases_Bool (i == d)) [ inl same ↦ absurd (f (eqb-true i d same)) | inr other ↦ other ]

append_nil : {X : Type 0} (xs : List X) → xs ++ [] ≡ xs
append_nil [] = refl
append_nil (x ∷ xs) = ap (λ l. x ∷ l) (append_nil xs)

written : (all : List (List Vector)) (i d : ℕ) (xs : List Vector) → i < length all →
    collected (slice_set all i xs) d ≡ (if i == d then xs else collected all d)
written all i d xs h =
    elim (cases_Bool (i == d)) [
      | inl same ↦
          let e : d ≡ i = sym (eqb-true i d same) in
          get_or-set_at all i d xs [] e h ∙ sym (ap (λ b. if b then xs else collected all d) same)
      | inr other ↦
          get_or-set_other all i d xs [] (λ e. eqb-false i d other (sym e)) ∙ sym (ap (λ b. if b then xs else collected all d) other)
    ]

joined : (all : List (List Vector)) (i d : ℕ) (v : Vector) →
    (if i == d then collected all i ++ v ∷ [] else collected all d) ≡ collected all d ++ (if i == d then v ∷ [] else [])
joined all i d v =
    elim (cases_Bool (i == d)) [
      | inl same ↦
          ap (λ b. if b then collected all i ++ v ∷ [] else collected all d) same
          ∙ ap (λ n. collected all n ++ v ∷ []) (eqb-true i d same)
          ∙ sym (ap (λ b. collected all d ++ (if b then v ∷ [] else [])) same)
      | inr other ↦
          ap (λ b. if b then collected all i ++ v ∷ [] else collected all d) other ∙ sym (append_nil (collected all d))
          ∙ sym (ap (λ b. collected all d ++ (if b then v ∷ [] else [])) other)
    ]

-- what stands at each decision once a vector is added to one of them
pub added : (all new : List (List Vector)) (i d : ℕ) (v : Vector) → d < length all →
    new ≡ (if nat_lt i (length all) then slice_set all i (collected all i ++ v ∷ []) else all) →
    collected new d ≡ collected all d ++ (if i == d then v ∷ [] else [])
added all new i d v h is =
    elim (cases_Bool (nat_lt i (length all))) [
      | inl fits ↦
          ap (λ l. collected l d) (is ∙ ap (λ b. if b then slice_set all i (collected all i ++ v ∷ []) else all) fits)
          ∙ written all i d (collected all i ++ v ∷ []) (ltb-true i (length all) fits) ∙ joined all i d v
      | inr over ↦
          let past : length all ≤ i = ltb-false i (length all) over in
          let other : (i == d) ≡ false = not_same i d (λ e. absurd (omega arith)) in
          ap (λ l. collected l d) (is ∙ ap (λ b. if b then slice_set all i (collected all i ++ v ∷ []) else all) over)
          ∙ sym (append_nil (collected all d)) ∙ sym (ap (λ b. collected all d ++ (if b then v ∷ [] else [])) other)
    ]

taken_by : (o : Option Vector) (rest : List Vector) → cons_option o rest ≡ cons_option o [] ++ rest
taken_by None rest = refl
taken_by (Some v) rest = refl

-- one more event, and those that are left
pub vectors_more : (events : List Event) (i d : ℕ) (event : Event) (old more all : List Vector) → drop i events ≡ event ∷ drop (i + 1) events →
    more ≡ old ++ vectors_of (event ∷ []) d → old ++ vectors_of (drop i events) d ≡ all → more ++ vectors_of (drop (i + 1) events) d ≡ all
vectors_more events i d event old more all next is whole =
    ap (λ l. l ++ vectors_of (drop (i + 1) events) d) is
    ∙ append_assoc old (vectors_of (event ∷ []) d) (vectors_of (drop (i + 1) events) d)
    ∙ ap (λ l. old ++ l) (sym (taken_by (vector_in d event) (vectors_of (drop (i + 1) events) d)))
    ∙ ap (λ l. old ++ vectors_of l d) (sym next) ∙ whole
