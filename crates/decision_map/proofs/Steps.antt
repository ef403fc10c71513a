-- Lists that are gone through place by place.
use Rattle.std.specs.List.{position_from}
use Rattle.std.proofs.Common.{◌≡◌, ℕ, ◌+◌, Bool, true, false, cond, find, List, [], ◌∷◌, ◌++◌, take, drop, Option, Some, sym, ap, ◌∙◌, slice_get}
use Rattle.std.proofs.lemmas.Option.{slice_get_within, get_or_from_slice_get}
use Rattle.std.proofs.lemmas.List.{drop_more, take_more}

-- what is left at a place begins with the item there
pub left_step : {X : Type 0} (xs : List X) (i : ℕ) (x : X) → slice_get xs i ≡ Some x → drop i xs ≡ x ∷ drop (i + 1) xs
left_step xs i x is = drop_more xs i x (slice_get_within xs i x is) ∙ ap (λ y. y ∷ drop (i + 1) xs) (get_or_from_slice_get xs i x x is)

-- what is passed once the item at a place is
pub passed_step : {X : Type 0} (xs : List X) (i : ℕ) (x : X) → slice_get xs i ≡ Some x → take (i + 1) xs ≡ take i xs ++ x ∷ []
passed_step xs i x is = take_more xs i x (slice_get_within xs i x is) ∙ ap (λ y. take i xs ++ y ∷ []) (get_or_from_slice_get xs i x x is)

-- a first item that passes a test is looked for, and the one at a place fails it
pub find_passed : {X : Type 0} (p : X → Bool) (xs : List X) (i : ℕ) (x : X) (found : Option X) → slice_get xs i ≡ Some x → p x ≡ false
    → find p (drop i xs) ≡ found → find p (drop (i + 1) xs) ≡ found
find_passed p xs i x found is fails left =
    sym (ap (find p) (left_step xs i x is) ∙ ap (λ (b : Bool). cond b (Some x) (find p (drop (i + 1) xs))) fails) ∙ left

-- or it passes
pub find_here : {X : Type 0} (p : X → Bool) (xs : List X) (i : ℕ) (x : X) (found : Option X) → slice_get xs i ≡ Some x → p x ≡ true
    → find p (drop i xs) ≡ found → Some x ≡ found
find_here p xs i x found is passes left =
    sym (ap (find p) (left_step xs i x is) ∙ ap (λ (b : Bool). cond b (Some x) (find p (drop (i + 1) xs))) passes) ∙ left

-- the same of its place
pub place_passed : {X : Type 0} (p : X → Bool) (xs : List X) (i : ℕ) (x : X) (found : Option ℕ) → slice_get xs i ≡ Some x → p x ≡ false
    → position_from p i (drop i xs) ≡ found → position_from p (i + 1) (drop (i + 1) xs) ≡ found
place_passed p xs i x found is fails left =
    sym (ap (position_from p i) (left_step xs i x is) ∙ ap (λ (b : Bool). cond b (Some i) (position_from p (i + 1) (drop (i + 1) xs))) fails) ∙ left

pub place_here : {X : Type 0} (p : X → Bool) (xs : List X) (i : ℕ) (x : X) (found : Option ℕ) → slice_get xs i ≡ Some x → p x ≡ true
    → position_from p i (drop i xs) ≡ found → Some i ≡ found
place_here p xs i x found is passes left =
    sym (ap (position_from p i) (left_step xs i x is) ∙ ap (λ (b : Bool). cond b (Some i) (position_from p (i + 1) (drop (i + 1) xs))) passes) ∙ left
