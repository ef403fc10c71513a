-- The objects of a frame by their numbers.
use Rattle.std.proofs.Common.{◌≡◌, ℕ, zero, suc, ◌+◌, ◌<◌, List, [], ◌∷◌, ◌++◌, length, map, Some, slice_get, refl, ap, ◌∙◌, subst, arith}
use Rattle.std.specs.Prelude.{take, unwrap_or}
use Rattle.cov_base.specs.Lists.{Everywhere}
use Rattle.ada_meaning.specs.Obligations.{numbers}
use Rattle.ada_tree.specs.declared.program.Program.{Program}
use Rattle.ada_tree.specs.declared.types.Subtype.{Subtype}
use Rattle.storage_layout.specs.Frames.{base_at, placed}
use Rattle.lower.proofs.Frames.{IsNone, subtype_is}

-- what holds of each number below a count holds everywhere among them
pub each_number : (P : ℕ → Type 0) (k n : ℕ) → ((i : ℕ) → i < n → P (k + i)) → Everywhere P (numbers k n)
each_number P k zero each = tt
each_number P k (suc n) each =
    (subst P (omega arith) (each 0 (omega arith)), each_number P (suc k) n (λ i less. subst P (omega arith) (each (suc i) (omega (arith, less)))))

pub each_below : (P : ℕ → Type 0) (n : ℕ) → ((i : ℕ) → i < n → P i) → Everywhere P (numbers 0 n)
each_below P n each = each_number P 0 n (λ i less. let same : i ≡ 0 + i = omega arith in subst P same (each i less))

-- an item of a list that is long enough
pub record Item {X : Type 0} (xs : List X) (i : ℕ) : Type 0 where
  pub item : X
  pub at : slice_get xs i ≡ Some item

pub item_at : {X : Type 0} (xs : List X) (i : ℕ) → i < length xs → Item xs i
item_at [] i less = absurd (omega (arith, less))
item_at (x ∷ xs) zero less = record { item = x; at = refl }
item_at (x ∷ xs) (suc i) less = let found = item_at xs i (omega (arith, less)) in record { item = found.item; at = found.at }

pub everywhere_at : {X : Type 0} (P : X → Type 0) (xs : List X) (i : ℕ) (x : X) → Everywhere P xs → slice_get xs i ≡ Some x → P x
everywhere_at P [] i x all at = absurd (subst IsNone at tt)
everywhere_at P (y ∷ ys) zero x all at = subst P (ap (λ o. unwrap_or o y) at) all.0
everywhere_at P (y ∷ ys) (suc i) x all at = everywhere_at P ys i x all.1 at

-- what is found in a list is within it; in its first items, and in what stands before others, each is found as in the whole
pub found_within : {X : Type 0} (xs : List X) (i : ℕ) (x : X) → slice_get xs i ≡ Some x → i < length xs
found_within [] i x at = absurd (subst IsNone at tt)
found_within (y ∷ ys) zero x at = omega arith
found_within (y ∷ ys) (suc i) x at = omega (arith, found_within ys i x at)

pub taken_at : {X : Type 0} (xs : List X) (n i : ℕ) → i < n → slice_get (take n xs) i ≡ slice_get xs i
taken_at xs zero i less = absurd (omega (arith, less))
taken_at [] (suc n) i less = refl
taken_at (x ∷ xs) (suc n) zero less = refl
taken_at (x ∷ xs) (suc n) (suc i) less = taken_at xs n i (omega (arith, less))

pub before_at : {X : Type 0} (xs ys : List X) (i : ℕ) → i < length xs → slice_get (xs ++ ys) i ≡ slice_get xs i
before_at [] ys i less = absurd (omega (arith, less))
before_at (x ∷ xs) ys zero less = refl
before_at (x ∷ xs) ys (suc i) less = before_at xs ys i (omega (arith, less))

pub number_at : (k n i : ℕ) → i < n → slice_get (numbers k n) i ≡ Some (k + i)
number_at k zero i less = absurd (omega (arith, less))
number_at k (suc n) zero less = ap Some (omega arith)
number_at k (suc n) (suc i) less = number_at (suc k) n i (omega (arith, less)) ∙ ap Some (omega arith)

pub everywhere_from : {X : Type 0} (P : X → Type 0) (xs : List X) → ((i : ℕ) (x : X) → slice_get xs i ≡ Some x → P x) → Everywhere P xs
everywhere_from P [] each = tt
everywhere_from P (x ∷ xs) each = (each 0 x refl, everywhere_from P xs (λ i y at. each (suc i) y at))

pub everywhere_map : {X Y : Type 0} (P : Y → Type 0) (f : X → Y) (xs : List X) → Everywhere P (map f xs) → Everywhere (λ x. P (f x)) xs
everywhere_map P f [] each = tt
everywhere_map P f (x ∷ xs) each = (each.0, everywhere_map P f xs each.1)

module _ (p : Program) (inst : ℕ) where
  -- the objects of a frame have their subtypes, in order
  pub subtypes_are : (count number base : ℕ) (ts : List Subtype) → map (λ o. o.subtype) (placed p inst count number base ts) ≡ ts
  subtypes_are count number base [] = refl
  subtypes_are count number base (t ∷ ts) = λ i. subtype_is p inst count number base t i ∷ subtypes_are count (number + 1) (base_at p inst count number base t) ts i
