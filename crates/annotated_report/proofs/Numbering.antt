-- One more item of a numbered list.
use Rattle.std.proofs.Common.{◌≡◌, ℕ, suc, ◌+◌, List, [], ◌∷◌, ◌++◌, drop, slice_get, Some, refl, sym, ap, ◌∙◌, arith}
use Rattle.std.proofs.lemmas.List.{append_assoc}
use Rattle.annotated_report.specs.Numbered.{each_numbered, sum_numbered}

-- what is found of one more item, and what is left to find
pub numbered_more : {X Y : Type 0} (f : ℕ → X → List Y) (xs : List X) (i : ℕ) (x : X) (old more all : List Y) → drop i xs ≡ x ∷ drop (i + 1) xs
    → more ≡ old ++ f i x → old ++ each_numbered f i (drop i xs) ≡ all → more ++ each_numbered f (i + 1) (drop (i + 1) xs) ≡ all
numbered_more f xs i x old more all next is whole =
    ap (λ l. l ++ each_numbered f (i + 1) (drop (i + 1) xs)) is ∙ append_assoc old (f i x) (each_numbered f (i + 1) (drop (i + 1) xs))
    ∙ ap (λ l. old ++ each_numbered f i l) (sym next) ∙ whole

pub sum_more : {X : Type 0} (f : ℕ → X → ℕ) (xs : List X) (i : ℕ) (x : X) (old more all : ℕ) → drop i xs ≡ x ∷ drop (i + 1) xs
    → more ≡ old + f i x → old + sum_numbered f i (drop i xs) ≡ all → more + sum_numbered f (i + 1) (drop (i + 1) xs) ≡ all
sum_more f xs i x old more all next is whole =
    let e : sum_numbered f i (drop i xs) ≡ f i x + sum_numbered f (i + 1) (drop (i + 1) xs) = ap (sum_numbered f i) next in omega arith

-- two ways to find agree on the items of a list
abbrev pub Agree : {X Y : Type 0} → (ℕ → X → Y) → (ℕ → X → Y) → ℕ → List X → Type 0
Agree {X} f g n xs = (i m : ℕ) (x : X) → m ≡ n + i → slice_get xs i ≡ Some x → f m x ≡ g m x

rest_agree : {X Y : Type 0} (f g : ℕ → X → Y) (n : ℕ) (x : X) (xs : List X) → Agree f g n (x ∷ xs) → Agree f g (n + 1) xs
rest_agree f g n x xs h i m y e at = h (suc i) m y (omega arith) at

-- then they find the same
pub same_found : {X Y : Type 0} (f g : ℕ → X → List Y) (n : ℕ) (xs : List X) → Agree f g n xs → each_numbered f n xs ≡ each_numbered g n xs
same_found f g n [] h = refl
same_found f g n (x ∷ xs) h =
    ap (λ l. l ++ each_numbered f (n + 1) xs) (h 0 n x (omega arith) refl)
    ∙ ap (λ l. g n x ++ l) (same_found f g (n + 1) xs (rest_agree f g n x xs h))

pub same_sum : {X : Type 0} (f g : ℕ → X → ℕ) (n : ℕ) (xs : List X) → Agree f g n xs → sum_numbered f n xs ≡ sum_numbered g n xs
same_sum f g n [] h = refl
same_sum f g n (x ∷ xs) h =
    ap (λ k. k + sum_numbered f (n + 1) xs) (h 0 n x (omega arith) refl)
    ∙ ap (λ k. g n x + k) (same_sum f g (n + 1) xs (rest_agree f g n x xs h))

-- items that are numbered from the next number on
pub numbered_later : {X Y : Type 0} (f : ℕ → X → List Y) (n : ℕ) (xs : List X) → each_numbered f (n + 1) xs ≡ each_numbered (λ k x. f (suc k) x) n xs
numbered_later f n [] = refl
numbered_later f n (x ∷ xs) =
    let next : n + 1 ≡ suc n = omega arith in
    ap (λ k. f k x ++ each_numbered f (n + 1 + 1) xs) next ∙ ap (λ l. f (suc n) x ++ l) (numbered_later f (n + 1) xs)
