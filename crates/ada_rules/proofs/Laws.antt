-- What refusals say.
use Rattle.std.proofs.Common.{◌≡◌, ℕ, Bool, true, false, List, [], ◌∷◌, ◌++◌, Option, Some, None, Err, if◌then◌else◌, ◌⊎◌, inl, inr, subst, ap, refl}
use Rattle.std.specs.Option.{option_or}
use Rattle.cov_base.specs.declared.position.Pos.{Pos}
use Rattle.ada_rules.specs.Plan.{Judgement, Offends, Agrees}
use Rattle.ada_rules.specs.Statics.{Demand, Asked, asked, instantiated, Made, Facts, holds, failing, failing_in, stands_in, looked_in, unmet_behind, first_unmet}
use Rattle.ada_rules.specs.Refusals.{Fails, this_fails, later_fails, demands_of}

pub refusal_offends : {A : Type 0} (j : Judgement A) (p : Pos) → j.answer ≡ Err p → Offends j.looked_at p
refusal_offends j p h = (subst (λ a. Agrees a j.looked_at) h j.law).1

-- one of two
either : (a b : Option Pos) (p : Pos) → option_or a b ≡ Some p → (a ≡ Some p) ⊎ (b ≡ Some p)
either None b p h = inr h
either (Some x) b p h = inl h

abbrev some_place : Option Pos → Pos → Pos
some_place None p = p
some_place (Some q) p = q

place_of : {q p : Pos} → Some q ≡ Some p → q ≡ p
place_of {q} {p} e = ap (λ o. some_place o p) e

failing_by : (instances : List Facts) (i : ℕ) (is : List ℕ) (d : Demand) (ds : List Demand) (p : Pos) (b : Bool)
    → holds instances i d.test ≡ b → (failing instances is d ≡ Some p → Fails instances p (d ∷ ds))
    → (if b then failing instances is d else Some d.place) ≡ Some p → Fails instances p (d ∷ ds)
failing_by instances i is d ds p true h later e = later e
failing_by instances i is d ds p false h later e = this_fails i (place_of e) h

failing_fails : (instances : List Facts) (is : List ℕ) (d : Demand) (ds : List Demand) (p : Pos)
    → failing instances is d ≡ Some p → Fails instances p (d ∷ ds)
failing_fails instances [] d ds p e = cc
failing_fails instances (i ∷ is) d ds p e =
    failing_by instances i is d ds p (holds instances i d.test) refl (failing_fails instances is d ds p) e

failing_if : (instances : List Facts) (i : ℕ) (d : Demand) (ds : List Demand) (p : Pos) (b : Bool)
    → (if b then failing instances (i ∷ []) d else None) ≡ Some p → Fails instances p (d ∷ ds)
failing_if instances i d ds p true e = failing_fails instances (i ∷ []) d ds p e
failing_if instances i d ds p false e = cc

failing_in_fails : (instances : List Facts) (g i : ℕ) (ds : List Demand) (p : Pos)
    → failing_in instances g i ds ≡ Some p → Fails instances p ds
failing_in_fails instances g i [] p e = cc
failing_in_fails instances g i (d ∷ ds) p e =
    elim (either (if stands_in (Some g) d.generic then failing instances (i ∷ []) d else None) (failing_in instances g i ds) p e) [
      | inl h ↦ failing_if instances i d ds p (stands_in (Some g) d.generic) h
      | inr h ↦ later_fails (failing_in_fails instances g i ds p h)
    ]

-- a demand behind others
among_both : {instances : List Facts} {p : Pos} (before : List Demand) (d : Demand)
    → Fails instances p (before ++ d ∷ [])
    → Fails instances p before ⊎ Fails instances p (d ∷ [])
among_both [] d f = inr f
among_both (x ∷ xs) d (this_fails i h k) = inl (this_fails i h k)
among_both (x ∷ xs) d (later_fails f) = elim (among_both xs d f) [ inl g ↦ inl (later_fails g) | inr g ↦ inr g ]

with_more : {instances : List Facts} {p : Pos} (d : Demand) (ds : List Demand)
    → Fails instances p (d ∷ []) → Fails instances p (d ∷ ds)
with_more d ds (this_fails i h k) = this_fails i h k
with_more d ds (later_fails f) = elim f [ ]

-- where a demand behind others fails, or one that comes later
joined : {instances : List Facts} {p : Pos} (before : List Demand) (d : Demand) (ds : List Demand)
    → Fails instances p (before ++ d ∷ []) ⊎ Fails instances p ds → Fails instances p before ⊎ Fails instances p (d ∷ ds)
joined before d ds (inr f) = inr (later_fails f)
joined before d ds (inl f) = elim (among_both before d f) [ inl g ↦ inl g | inr g ↦ inr (with_more d ds g) ]

unmet_fails : (instances : List Facts) (before : List Demand) (made : List Made) (xs : List Asked) (p : Pos)
    → unmet_behind instances before made xs ≡ Some p → Fails instances p before ⊎ Fails instances p (demands_of xs)
unmet_fails instances before made [] p e = cc
unmet_fails instances before made (asked d ∷ rest) p e =
    elim (either (failing instances (looked_in made d.generic) d) (unmet_behind instances (before ++ d ∷ []) made rest) p e) [
      | inl h ↦ inr (failing_fails instances (looked_in made d.generic) d (demands_of rest) p h)
      | inr h ↦ joined before d (demands_of rest) (unmet_fails instances (before ++ d ∷ []) made rest p h)
    ]
unmet_fails instances before made (instantiated g i ∷ rest) p e =
    elim (either (failing_in instances g i before) (unmet_behind instances before (record { generic = g; instance = i } ∷ made) rest) p e) [
      | inl h ↦ inl (failing_in_fails instances g i before p h)
      | inr h ↦ unmet_fails instances before (record { generic = g; instance = i } ∷ made) rest p h
    ]

among_none : {A : Type 0} {instances : List Facts} {p : Pos} → Fails instances p [] → A
among_none f = elim f [ ]

pub first_unmet_fails : (instances : List Facts) (xs : List Asked) (p : Pos)
    → first_unmet instances xs ≡ Some p → Fails instances p (demands_of xs)
first_unmet_fails instances xs p e = elim (unmet_fails instances [] [] xs p e) [ inl f ↦ among_none f | inr f ↦ f ]
