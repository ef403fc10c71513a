-- Sums over lists, which tell how often each item comes.
use Rattle.std.proofs.Common.{◌≡◌, ◌≤◌, ◌+◌, ℕ, nat_eq, Bool, true, false, if◌then◌else◌, List, [], ◌∷◌, ◌++◌, length, refl, sym, ap, ◌∙◌, arith, inl, inr}
use Rattle.std.specs.Prelude.{◌⊎◌}
use Rattle.std.specs.List.{sum_by}
use Rattle.std.proofs.lemmas.List.Sums.{sum_by-cons}
use Rattle.std.proofs.lemmas.Bool.{eqb-true, eq-eqb}
use Rattle.cov_base.specs.Lists.{Somewhere}
use Rattle.legal_instances.specs.Ordered.{HaveSameItems}

-- an item, and those behind it
pub same_behind : (x : ℕ) (xs ys : List ℕ) → HaveSameItems xs ys → HaveSameItems (x ∷ xs) (x ∷ ys)
same_behind x xs ys h weight = sum_by-cons weight x xs ∙ (ap (λ n. weight x + n) (h weight) ∙ sym (sum_by-cons weight x ys))

pub same_back : (xs ys : List ℕ) → HaveSameItems xs ys → HaveSameItems ys xs
same_back xs ys h weight = sym (h weight)

pub same_both : (xs ys zs : List ℕ) → HaveSameItems xs ys → HaveSameItems ys zs → HaveSameItems xs zs
same_both xs ys zs h k weight = h weight ∙ k weight

-- two items may change places
pub swapped : (x y : ℕ) (xs : List ℕ) → HaveSameItems (x ∷ (y ∷ xs)) (y ∷ (x ∷ xs))
swapped x y xs weight =
    let a = sum_by-cons weight x (y ∷ xs) in
    let b = sum_by-cons weight y xs in
    let c = sum_by-cons weight y (x ∷ xs) in
    let d = sum_by-cons weight x xs in
    omega (arith, a, b, c, d)

-- an item may go in front
pub to_front : (xs : List ℕ) (x : ℕ) (ys : List ℕ) → HaveSameItems (xs ++ x ∷ ys) (x ∷ (xs ++ ys))
to_front [] x ys weight = refl
to_front (y ∷ xs) x ys weight =
    same_behind y (xs ++ x ∷ ys) (x ∷ (xs ++ ys)) (to_front xs x ys) weight ∙ swapped y x (xs ++ ys) weight

-- how often a number comes
abbrev pub one_at : ℕ → ℕ → ℕ
one_at n x = if nat_eq x n then 1 else 0

pub there_counts : (n : ℕ) (xs : List ℕ) → Somewhere (λ x. x ≡ n) xs → 1 ≤ sum_by (one_at n) xs
there_counts n [] h = absurd h
there_counts n (x ∷ xs) (inl e) =
    let first = sum_by-cons (one_at n) x xs in
    let one : one_at n x ≡ 1 = ap (λ b. if b then 1 else 0) (eq-eqb x n e) in
    omega (arith, first, one)
there_counts n (x ∷ xs) (inr h) =
    let first = sum_by-cons (one_at n) x xs in
    let rest = there_counts n xs h in
    omega (arith, first, rest)

pub counts_there : (n : ℕ) (xs : List ℕ) → 1 ≤ sum_by (one_at n) xs → Somewhere (λ x. x ≡ n) xs
counts_there n [] h = absurd (none h)
  where
    none : 1 ≤ 0 → ⊥
    none k = omega (arith, k)
counts_there n (x ∷ xs) h = by_first (nat_eq x n) refl (counts_there n xs)
  where
    by_first : (b : Bool) → nat_eq x n ≡ b → (1 ≤ sum_by (one_at n) xs → Somewhere (λ y. y ≡ n) xs)
        → (x ≡ n) ⊎ Somewhere (λ y. y ≡ n) xs
    by_first true e rest = inl (eqb-true x n e)
    by_first false e rest =
        let first = sum_by-cons (one_at n) x xs in
        let none : one_at n x ≡ 0 = ap (λ b. if b then 1 else 0) e in
        inr (rest (omega (arith, first, none, h)))

pub there_too : (n : ℕ) (xs ys : List ℕ) → HaveSameItems xs ys → Somewhere (λ x. x ≡ n) xs → Somewhere (λ y. y ≡ n) ys
there_too n xs ys same h =
    let count = there_counts n xs h in
    let equal = same (one_at n) in
    counts_there n ys (omega (arith, count, equal))

-- as many items
pub length_sum : (xs : List ℕ) → length xs ≡ sum_by (λ x. 1) xs
length_sum [] = refl
length_sum (x ∷ xs) = let rest = length_sum xs in let first = sum_by-cons (λ (y : ℕ). 1) x xs in omega (arith, rest, first)

pub same_length : (xs ys : List ℕ) → HaveSameItems xs ys → length xs ≡ length ys
same_length xs ys h = length_sum xs ∙ (h (λ x. 1) ∙ sym (length_sum ys))
