-- Lists that are gathered or looked at item by item: what was gathered, and then what is left, is the whole.
use Rattle.std.proofs.Common.{◌≡◌, ℕ, zero, suc, ◌+◌, ◌<◌, ◌≤◌, List, [], ◌∷◌, ◌++◌, map, drop, length, get_or, slice_get, Some, sym, ap, subst, ◌∙◌, append_assoc, arith, inl, inr}
use Rattle.std.specs.Prelude.{IfSome}
use Rattle.std.proofs.lemmas.Bool.{cases_lt}
use Rattle.std.proofs.lemmas.List.{append-nil, at_drop_more, drop_all}
use Rattle.coverage_set.specs.Consolidated.{AreBefore}

-- what is left behind an item
left_behind : {X : Type 0} (xs : List X) (i : ℕ) (x : X) → slice_get xs i ≡ Some x → drop i xs ≡ x ∷ drop (i + 1) xs
left_behind [] i x is = absurd cc
left_behind (y ∷ xs) zero x is = let same : y ≡ x = cc in ap (λ z. z ∷ xs) same
left_behind (y ∷ xs) (suc i) x is = left_behind xs i x is ∙ ap (λ n. x ∷ drop n (y ∷ xs)) (let e : suc (i + 1) ≡ suc i + 1 = omega arith in e)

-- an item more
pub one_more : {X Y : Type 0} (f : X → Y) (all gathered : List Y) (xs : List X) (i : ℕ) (x : X) → slice_get xs i ≡ Some x → gathered ++ map f (drop i xs) ≡ all
    → (gathered ++ f x ∷ []) ++ map f (drop (i + 1) xs) ≡ all
one_more f all gathered xs i x is so_far =
    append_assoc gathered (f x ∷ []) (map f (drop (i + 1) xs)) ∙ (ap (λ rest. gathered ++ map f rest) (sym (left_behind xs i x is)) ∙ so_far)

-- an item more, of which these are gathered
pub some_more : {X Y : Type 0} (g : List X → List Y) (xs : List X) (i : ℕ) (x : X) (own gathered new all : List Y) → i < length xs → x ≡ get_or xs i x
    → g (x ∷ drop (i + 1) xs) ≡ own ++ g (drop (i + 1) xs) → new ≡ gathered ++ own → gathered ++ g (drop i xs) ≡ all → new ++ g (drop (i + 1) xs) ≡ all
some_more g xs i x own gathered new all within is first grown so_far =
    let rest = drop (i + 1) xs in
    ap (λ ys. ys ++ g rest) grown
    ∙ (append_assoc gathered own (g rest)
    ∙ (ap (λ ys. gathered ++ ys) (sym first ∙ (ap (λ y. g (y ∷ rest)) is ∙ sym (at_drop_more g xs i x within)))
    ∙ so_far))

-- nothing is left
pub none_left : {X Y : Type 0} (g : List X → List Y) → g [] ≡ [] → (all gathered : List Y) (xs : List X) (i : ℕ) → length xs ≤ i → gathered ++ g (drop i xs) ≡ all → gathered ≡ all
none_left g none all gathered xs i behind so_far =
    sym (append-nil gathered) ∙ (ap (λ rest. gathered ++ rest) (sym none) ∙ (ap (λ rest. gathered ++ g rest) (sym (drop_all i xs behind)) ∙ so_far))

-- an item more that is so
pub one_more_is : {X : Type 0} (P : X → Type 0) (xs : List X) (n : ℕ) (x : X) → slice_get xs n ≡ Some x → P x → AreBefore P xs n → AreBefore P xs (n + 1)
one_more_is P xs n x is so before i below =
    elim (cases_lt i n) [
      | inl low ↦ before i low
      | inr high ↦ let same : n ≡ i = omega arith in subst (λ k. IfSome (slice_get xs k) P) same (subst (λ o. IfSome o P) (sym is) so)
    ]

-- an item that is not so
pub is_not : {X : Type 0} (P : X → Type 0) (xs : List X) (n : ℕ) (x : X) → slice_get xs n ≡ Some x → (P x → ⊥) → IfSome (slice_get xs n) (λ y. P y → ⊥)
is_not P xs n x is not_so = subst (λ o. IfSome o (λ y. P y → ⊥)) (sym is) not_so
