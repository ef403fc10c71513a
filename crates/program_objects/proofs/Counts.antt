-- Lists whose items are counted: which items a list has, and that it has none twice.
use Rattle.std.proofs.Common.{◌≡◌, ◌≢◌, ℕ, zero, suc, ◌+◌, ◌≤◌, List, [], ◌∷◌, ◌++◌, length, map, sum_by, AllPairs, Contains, refl, sym, ap, ◌∙◌, subst, arith, ◌⊎◌, inl, inr}
use Rattle.std.specs.List.{AllByRecursion}
use Rattle.std.proofs.lemmas.List.Elements.{All-from_recursion}
use Rattle.std.proofs.lemmas.List.Kept.{AllPairs-cons}
use Rattle.std.proofs.lemmas.List.Sums.{sum_by-cons}
use Rattle.cov_base.specs.Lists.{Everywhere}

-- items

pub at_front : {X : Type 0} (x : X) (xs : List X) → Contains (x ∷ xs) x
at_front x xs = (0, omega arith, refl)

pub further_back : {X : Type 0} (x y : X) (xs : List X) → Contains xs x → Contains (y ∷ xs) x
further_back x y xs (i, low, is) = (suc i, omega (arith, low), is)

-- what holds of each item holds of one that is there
pub of_item : {X : Type 0} (P : X → Type 0) (xs : List X) (x : X) → Everywhere P xs → Contains xs x → P x
of_item P [] x each (i, low, is) = absurd (omega (arith, low))
of_item P (y ∷ ys) x each (zero, low, is) = subst P is each.0
of_item P (y ∷ ys) x each (suc i, low, is) = of_item P ys x each.1 (i, omega (arith, low), is)

pub of_each_item : {X : Type 0} (P : X → Type 0) (xs : List X) → ((x : X) → Contains xs x → P x) → Everywhere P xs
of_each_item P [] holds = tt
of_each_item P (x ∷ xs) holds = (holds x (at_front x xs), of_each_item P xs (λ y has. holds y (further_back y x xs has)))

pub both_lists : {X : Type 0} (P : X → Type 0) (xs ys : List X) → Everywhere P xs → Everywhere P ys → Everywhere P (xs ++ ys)
both_lists P [] ys front back = back
both_lists P (x ∷ xs) ys front back = (front.0, both_lists P xs ys front.1 back)

-- sums

pub sum_of_map : {X Y : Type 0} (f : Y → ℕ) (g : X → Y) (xs : List X) → sum_by f (map g xs) ≡ sum_by (λ x. f (g x)) xs
sum_of_map f g [] = refl
sum_of_map f g (x ∷ xs) = sum_by-cons f (g x) (map g xs) ∙ ap (λ n. f (g x) + n) (sum_of_map f g xs) ∙ sym (sum_by-cons (λ y. f (g y)) x xs)

pub sum_of_ones : {X : Type 0} (xs : List X) → sum_by (λ x. 1) xs ≡ length xs
sum_of_ones [] = refl
sum_of_ones (x ∷ xs) = omega (arith, sum_by-cons (λ x. 1) x xs, sum_of_ones xs)

-- counts, by a number that is 1 at an item itself and 0 at any other

abbrev pub Tells : {X : Type 0} → (X → X → ℕ) → Type 0
Tells {X} hits = (x y : X) → ((x ≡ y) × (hits x y ≡ 1)) ⊎ ((x ≢ y) × (hits x y ≡ 0))

module _ {X : Type 0} (hits : X → X → ℕ) (told : Tells hits) where
  pub hits_itself : (x : X) → hits x x ≡ 1
  hits_itself x = by (told x x)
    where
      by : ((x ≡ x) × (hits x x ≡ 1)) ⊎ ((x ≢ x) × (hits x x ≡ 0)) → hits x x ≡ 1
      by (inl is) = is.1
      by (inr not) = absurd (not.0 refl)

  -- an item that is there is counted
  pub counted_there : (xs : List X) (x : X) → Contains xs x → 1 ≤ sum_by (hits x) xs
  counted_there [] x (i, low, is) = absurd (omega (arith, low))
  counted_there (y ∷ ys) x (zero, low, is) = omega (arith, sum_by-cons (hits x) y ys, subst (λ z. hits x z ≡ 1) (sym is) (hits_itself x))
  counted_there (y ∷ ys) x (suc i, low, is) = omega (arith, sum_by-cons (hits x) y ys, counted_there ys x (i, omega (arith, low), is))

  -- one that is counted is there
  pub there_counted : (xs : List X) (x : X) → 1 ≤ sum_by (hits x) xs → Contains xs x
  there_counted [] x some = absurd (omega (arith, some))
  there_counted (y ∷ ys) x some = by (told x y) (λ more. there_counted ys x more)
    where
      by : ((x ≡ y) × (hits x y ≡ 1)) ⊎ ((x ≢ y) × (hits x y ≡ 0)) → (1 ≤ sum_by (hits x) ys → Contains ys x) → Contains (y ∷ ys) x
      by (inl is) later = (0, omega arith, sym is.0)
      by (inr not) later = further_back x y ys (later (omega (arith, some, sum_by-cons (hits x) y ys, not.1)))

  -- where no item is counted twice, none is there twice
  others : (x : X) (xs : List X) → sum_by (hits x) xs ≤ 0 → AllByRecursion (λ y. x ≢ y) xs
  others x [] none = tt
  others x (y ∷ ys) none = (by (told x y), others x ys (omega (arith, none, sum_by-cons (hits x) y ys)))
    where
      by : ((x ≡ y) × (hits x y ≡ 1)) ⊎ ((x ≢ y) × (hits x y ≡ 0)) → x ≢ y
      by (inl is) = absurd (omega (arith, none, sum_by-cons (hits x) y ys, is.1))
      by (inr not) = not.0

  pub none_twice : (xs : List X) → ((x : X) → sum_by (hits x) xs ≤ 1) → AllPairs (λ one next. one ≢ next) xs
  none_twice [] once = λ i j d lt within. absurd (omega arith)
  none_twice (x ∷ xs) once =
      AllPairs-cons (λ one next. one ≢ next) x xs
      (All-from_recursion (λ y. x ≢ y) xs (others x xs (omega (arith, once x, sum_by-cons (hits x) x xs, hits_itself x))))
      (none_twice xs (λ y. omega (arith, once y, sum_by-cons (hits y) x xs)))
