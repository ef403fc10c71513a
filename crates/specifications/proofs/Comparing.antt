-- Lists that are compared item by item.
use Rattle.std.proofs.Common.{◌≡◌, ℕ, ◌+◌, ◌<◌, ◌≤◌, Bool, true, false, ◌&&◌, List, [], ◌∷◌, length, drop, get_or, slice_get, Option, Some, None, is_none, is_some, not, ⊎_elim, refl, sym, ap, ◌∙◌}
use Rattle.std.specs.Borrow.{Bor}
use Rattle.std.specs.Option.{option_copied}
use Rattle.std.proofs.lemmas.List.{at_drop_more, drop_all}
use Rattle.std.proofs.lemmas.Option.{get_or_from_slice_get, none-some, slice_get_cases, slice_get_within}

-- the item at a place, and what is behind it
pub item_there : {A : Type 0} (xs : List A) (i : ℕ) (x : A) → slice_get xs i ≡ Some x → drop i xs ≡ x ∷ drop (i + 1) xs
item_there xs i x h =
    at_drop_more (λ zs. zs) xs i x (slice_get_within xs i x h)
    ∙ ap (λ z. z ∷ drop (i + 1) xs) (get_or_from_slice_get xs i x x h)

pub item_read : {A : Type 0} (xs : List A) (i : ℕ) (x : A) → i < length xs → x ≡ get_or xs i x → drop i xs ≡ x ∷ drop (i + 1) xs
item_read xs i x h e = at_drop_more (λ zs. zs) xs i x h ∙ ap (λ z. z ∷ drop (i + 1) xs) (sym e)

pub no_item : {A : Type 0} (xs : List A) (i : ℕ) → slice_get xs i ≡ None → drop i xs ≡ []
no_item xs i h =
    ⊎_elim (λ p. absurd (none-some _ (sym h ∙ p.2))) (λ p. drop_all i xs p.0) (slice_get_cases xs i).1

module _ {A B : Type 0} (t : A → B → Bool) (F : List A → List B → Bool) (fewer : (x : A) (xs : List A) → F (x ∷ xs) [] ≡ false)
    (both : (x : A) (xs : List A) (y : B) (ys : List B) → F (x ∷ xs) (y ∷ ys) ≡ (t x y && F xs ys)) (xs : List A) (ys : List B) (i : ℕ) (x : A)
    (h : i < length xs) (is : x ≡ get_or xs i x) where
  pub turn : (y : B) → slice_get ys i ≡ Some y → F (drop i xs) (drop i ys) ≡ (t x y && F (drop (i + 1) xs) (drop (i + 1) ys))
  turn y e =
      (λ z. F (item_read xs i x h is z) (item_there ys i y e z)) ∙ both x (drop (i + 1) xs) y (drop (i + 1) ys)

  pub ended : slice_get ys i ≡ None → F (drop i xs) (drop i ys) ≡ false
  ended e = (λ z. F (item_read xs i x h is z) (no_item ys i e z)) ∙ fewer x (drop (i + 1) xs)

-- where no item is left on one side, none may be left on the other
pub none_left : {A B : Type 0} (F : List A → List B → Bool) → F [] [] ≡ true → ((y : B) (ys : List B) → F [] (y ∷ ys) ≡ false)
    → (xs : List A) (ys : List B) (i : ℕ) → length xs ≤ i → (o : Option B) → slice_get ys i ≡ o → is_none o ≡ F (drop i xs) (drop i ys)
none_left F none more xs ys i h None e = sym ((λ z. F (drop_all i xs h z) (no_item ys i e z)) ∙ none)
none_left F none more xs ys i h (Some y) e = sym ((λ z. F (drop_all i xs h z) (item_there ys i y e z)) ∙ more y (drop (i + 1) ys))

pub told_none : {A : Type 0} (o : Option (Bor A)) (b : Bool) → is_some o ≡ not b → b ≡ is_none (option_copied o)
told_none None true h = refl
told_none None false h = h
told_none (Some x) true h = h
told_none (Some x) false h = refl
