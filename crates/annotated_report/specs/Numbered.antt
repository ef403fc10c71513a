-- Lists whose items are numbered.
use Rattle.std.specs.Prelude.{ℕ, ◌+◌, List, [], ◌∷◌, ◌++◌}

-- all that is found of items which are numbered from n on
abbrev pub each_numbered : {X Y : Type 0} → (ℕ → X → List Y) → ℕ → List X → List Y
each_numbered found n [] = []
each_numbered found n (x ∷ xs) = found n x ++ each_numbered found (n + 1) xs

-- the sum of what is counted of items which are numbered from n on
abbrev pub sum_numbered : {X : Type 0} → (ℕ → X → ℕ) → ℕ → List X → ℕ
sum_numbered counted n [] = 0
sum_numbered counted n (x ∷ xs) = counted n x + sum_numbered counted (n + 1) xs
