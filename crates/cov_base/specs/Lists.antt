-- What each item of a list is, and what some item is.
use Rattle.std.specs.Prelude.{List, [], ◌∷◌, ◌⊎◌}

-- each item of the list is so
abbrev pub Everywhere : {X : Type 0} → (X → Type 0) → List X → Type 0
Everywhere P [] = Unit {0}
Everywhere P (x ∷ xs) = P x × Everywhere P xs

-- some item of the list is so
abbrev pub Somewhere : {X : Type 0} → (X → Type 0) → List X → Type 0
Somewhere P [] = ⊥
Somewhere P (x ∷ xs) = P x ⊎ Somewhere P xs
