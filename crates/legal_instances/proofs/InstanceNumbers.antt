-- Instances are numbered in the order of the text, each by a number of its own, up to how many there are.
use Rattle.std.proofs.Common.{◌≡◌, ◌≤◌, ◌<◌, ◌+◌, ℕ, zero, suc, Bool, true, false, if◌then◌else◌, List, [], ◌∷◌, length, Some, set, slice_get, refl, sym, ap, ◌∙◌, subst, arith}
use Rattle.ada_syntax.specs.declared.unit.Unit.{Unit as LibraryUnit}
use Rattle.ada_rules.specs.Library.{is_instance, count_instances, instance_number}
use Rattle.legal_instances.proofs.WholeOrder.{none_some, or_else}

-- a unit that is an instance
pub record IsInstanceAt (us : List LibraryUnit) (n : ℕ) : Type 0 where
  pub unit : LibraryUnit
  pub there : slice_get us n ≡ Some unit
  pub is : is_instance unit.item ≡ true

instance_behind : (u : LibraryUnit) (us : List LibraryUnit) (n : ℕ) → IsInstanceAt (u ∷ us) (suc n) → IsInstanceAt us n
instance_behind u us n h = record { unit = h.unit; there = h.there; is = h.is }

none_there : (n : ℕ) → IsInstanceAt [] n → ⊥
none_there zero h = none_some h.there
none_there (suc n) h = none_some h.there

first_is_instance : (u : LibraryUnit) (us : List LibraryUnit) → IsInstanceAt (u ∷ us) 0 → is_instance u.item ≡ true
first_is_instance u us h = ap (λ v. is_instance (or_else u v).item) h.there ∙ h.is

pub number_positive : (n : ℕ) (us : List LibraryUnit) → 1 ≤ instance_number n us
number_positive n [] = omega (arith)
number_positive zero (u ∷ us) = omega (arith)
number_positive (suc n) (u ∷ us) = by_test (is_instance u.item) (number_positive n us)
  where
    by_test : (b : Bool) → 1 ≤ instance_number n us → 1 ≤ (if b then instance_number n us + 1 else instance_number n us)
    by_test true h = omega (arith, h)
    by_test false h = h

-- the unit behind an instance has the next number, and behind others the same
pub next_number : (us : List LibraryUnit) (n : ℕ) (u : LibraryUnit) → slice_get us n ≡ Some u
    → instance_number (suc n) us ≡ (if is_instance u.item then instance_number n us + 1 else instance_number n us)
next_number [] zero u h = absurd (none_some h)
next_number [] (suc n) u h = absurd (none_some h)
next_number (v ∷ us) zero u h = first_number us ∙ ap (λ x. if is_instance x.item then 2 else 1) (ap (or_else v) h)
  where
    number_0 : (us : List LibraryUnit) → instance_number 0 us ≡ 1
    number_0 [] = refl
    number_0 (w ∷ ws) = refl

    first_number : (us : List LibraryUnit) → instance_number 1 (v ∷ us) ≡ (if is_instance v.item then 2 else 1)
    first_number us = ap (λ n. if is_instance v.item then n + 1 else n) (number_0 us)
next_number (v ∷ us) (suc n) u h =
    ap (λ m. if is_instance v.item then m + 1 else m) (next_number us n u h)
    ∙ both_tests (is_instance v.item) (is_instance u.item) (instance_number n us)
  where
    both_tests : (a b : Bool) (m : ℕ) → (if a then (if b then m + 1 else m) + 1 else (if b then m + 1 else m))
        ≡ (if b then (if a then m + 1 else m) + 1 else (if a then m + 1 else m))
    both_tests true true m = refl
    both_tests true false m = refl
    both_tests false true m = refl
    both_tests false false m = refl

-- a later instance has a greater number
pub number_less : (us : List LibraryUnit) (n m : ℕ) → n < m → IsInstanceAt us n → IsInstanceAt us m → instance_number n us < instance_number m us
number_less us n zero less h k = absurd (none less)
  where
    none : n < 0 → ⊥
    none l = omega (arith, l)
number_less [] n (suc m) less h k = absurd (none_there n h)
number_less (u ∷ us) zero (suc m) less h k =
    subst (λ b. 1 < (if b then instance_number m us + 1 else instance_number m us)) (sym (first_is_instance u us h))
    (let positive = number_positive m us in omega (arith, positive))
number_less (u ∷ us) (suc n) (suc m) less h k =
    by_test (is_instance u.item) (number_less us n m (omega (arith, less)) (instance_behind u us n h) (instance_behind u us m k))
  where
    by_test : (b : Bool) → instance_number n us < instance_number m us
        → (if b then instance_number n us + 1 else instance_number n us) < (if b then instance_number m us + 1 else instance_number m us)
    by_test true l = omega (arith, l)
    by_test false l = l

-- none has a number past the last
pub number_counted : (us : List LibraryUnit) (n : ℕ) → IsInstanceAt us n → instance_number n us ≤ count_instances us
number_counted [] n h = absurd (none_there n h)
number_counted (u ∷ us) zero h =
    subst (λ b. 1 ≤ (if b then count_instances us + 1 else count_instances us)) (sym (first_is_instance u us h)) (omega (arith))
number_counted (u ∷ us) (suc n) h = by_test (is_instance u.item) (number_counted us n (instance_behind u us n h))
  where
    by_test : (b : Bool) → instance_number n us ≤ count_instances us
        → (if b then instance_number n us + 1 else instance_number n us) ≤ (if b then count_instances us + 1 else count_instances us)
    by_test true l = omega (arith, l)
    by_test false l = l

-- an item that is set, and the others
pub set_here : {X : Type 0} (xs : List X) (k : ℕ) (x : X) → k < length xs → slice_get (set xs k x) k ≡ Some x
set_here [] k x h = absurd (none h)
  where
    none : k < 0 → ⊥
    none l = omega (arith, l)
set_here (y ∷ xs) zero x h = refl
set_here (y ∷ xs) (suc k) x h = set_here xs k x (omega (arith, h))

pub set_others : {X : Type 0} (xs : List X) (k j : ℕ) (x : X) → (k ≡ j → ⊥) → slice_get (set xs k x) j ≡ slice_get xs j
set_others [] zero j x h = refl
set_others [] (suc k) j x h = refl
set_others (y ∷ xs) zero zero x h = absurd (h refl)
set_others (y ∷ xs) zero (suc j) x h = refl
set_others (y ∷ xs) (suc k) zero x h = refl
set_others (y ∷ xs) (suc k) (suc j) x h = set_others xs k j x (λ e. h (ap suc e))
