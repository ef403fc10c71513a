-- The greatest count of the items of a list, item by item.
use Rattle.std.proofs.Common.{◌≡◌, ℕ, ◌+◌, ◌<◌, ◌≤◌, max, List, [], ◌∷◌, drop, length, get_or, ap, ◌∙◌, arith}
use Rattle.std.proofs.lemmas.List.{at_drop_more, at_drop_all}
use Rattle.ada_tree.specs.Objects.{capped}

-- Whether what was counted of a list, and what is left of it from an item on, is the whole. The count of the empty list is contained.
abbrev pub Counted : {X : Type 0} (F : List X → ℕ) (xs : List X) (i count : ℕ) → Type 0
Counted F xs i count = (max count (capped (F (drop i xs))) ≡ capped (F xs)) × (capped (F []) ≤ count)

module _ {X : Type 0} (F : List X → ℕ) (g : X → ℕ) (step : (x : X) (xs : List X) → F (x ∷ xs) ≡ max (g x) (F xs)) where
  least : (xs : List X) → F [] ≤ F xs
  least [] = omega arith
  least (x ∷ xs) = omega (arith, step x xs, least xs)

  pub none_counted : (xs : List X) (count : ℕ) → count ≡ capped (F []) → Counted F xs 0 count
  none_counted xs count is = (omega (arith, is, least xs), omega (arith, is))

  pub one_counted : (xs : List X) (i : ℕ) (d x : X) (count next : ℕ) → i < length xs → x ≡ get_or xs i d → next ≡ max count (capped (g x))
      → Counted F xs i count
      → Counted F xs (i + 1) next
  one_counted xs i d x count next lt is taken h =
      let left : F (drop i xs) ≡ max (g (get_or xs i d)) (F (drop (i + 1) xs)) = at_drop_more F xs i d lt ∙ step (get_or xs i d) (drop (i + 1) xs) in
      let value : g x ≡ g (get_or xs i d) = ap g is in
      (omega (arith, left, value, taken, h.0), omega (arith, taken, h.1))

pub all_counted : {X : Type 0} (F : List X → ℕ) (xs : List X) (i count : ℕ) → length xs ≤ i → Counted F xs i count → count ≡ capped (F xs)
all_counted F xs i count le h = omega (arith, at_drop_all F xs i le, h.0, h.1)
