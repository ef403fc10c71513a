-- Lists that are made item by item.
use Rattle.std.proofs.Common.{◌≡◌, ℕ, ◌+◌, ◌<◌, ◌≤◌, List, [], ◌∷◌, ◌++◌, length, map, drop, get_or, refl, sym, ap, ◌∙◌}
use Rattle.std.proofs.lemmas.List.{append_assoc, at_drop_all, at_drop_more, map-append}

pub append_nothing : {A : Type 0} (xs : List A) → xs ++ [] ≡ xs
append_nothing [] = refl
append_nothing (x ∷ xs) = ap (λ ys. x ∷ ys) (append_nothing xs)

pub map_map : {A B C : Type 0} (g : B → C) (f : A → B) (xs : List A) → map g (map f xs) ≡ map (λ x. g (f x)) xs
map_map g f [] = refl
map_map g f (x ∷ xs) = ap (λ ys. g (f x) ∷ ys) (map_map g f xs)

pub map_itself : {A : Type 0} (xs : List A) → map (λ x. x) xs ≡ xs
map_itself [] = refl
map_itself (x ∷ xs) = ap (λ ys. x ∷ ys) (map_itself xs)

-- what is there so far, with what is left, is all
module _ {A B C : Type 0} (view : B → C) (f : A → C) (xs : List A) (done : List B) (whole : List C) where
  pub one_more : (i : ℕ) (d x : A) (y : B) → i < length xs → x ≡ get_or xs i d → view y ≡ f x
      → map view done ++ map f (drop i xs) ≡ whole → map view (done ++ y ∷ []) ++ map f (drop (i + 1) xs) ≡ whole
  one_more i d x y h is e so_far =
      ap (λ ys. ys ++ map f (drop (i + 1) xs)) (map-append view done (y ∷ []))
      ∙ append_assoc (map view done) (view y ∷ []) (map f (drop (i + 1) xs))
      ∙ ap (λ z. map view done ++ z ∷ map f (drop (i + 1) xs)) (e ∙ ap f is)
      ∙ sym (at_drop_more (λ zs. map view done ++ map f zs) xs i d h)
      ∙ so_far

  pub all_there : (i : ℕ) → length xs ≤ i → map view done ++ map f (drop i xs) ≡ whole → map view done ≡ whole
  all_there i h so_far =
      sym (append_nothing (map view done)) ∙ sym (at_drop_all (λ zs. map view done ++ map f zs) xs i h) ∙ so_far
