-- Lists with others behind them.
use Rattle.std.proofs.Common.{◌≡◌, ℕ, ◌<◌, List, [], ◌∷◌, ◌++◌, length, map, reverse, slice_get, Some, refl, sym, ap, ◌∙◌, subst, arith, length-append}
use Rattle.std.proofs.lemmas.List.{get_or_append_left, map-append, reverse-append}
use Rattle.std.proofs.lemmas.Option.{slice_get-get_or, slice_get_within}

pub front_get : {A : Type 0} (xs ys : List A) (d : A) (i : ℕ) → i < length xs → slice_get xs i ≡ slice_get (xs ++ ys) i
front_get xs ys d i h =
    slice_get-get_or xs i d h
    ∙ (ap (λ x. Some x) (sym (get_or_append_left xs ys d i h))
    ∙ sym (slice_get-get_or (xs ++ ys) i d (omega (arith, length-append xs ys))))

pub front_some : {A : Type 0} (xs ys : List A) (x : A) (i : ℕ) → slice_get xs i ≡ Some x → slice_get (xs ++ ys) i ≡ Some x
front_some xs ys x i h = sym (front_get xs ys x i (slice_get_within xs i x h)) ∙ h

-- the last, and the first that stands behind
pub at_last : {A : Type 0} (xs : List A) (x : A) (n : ℕ) → n ≡ length xs → slice_get (xs ++ x ∷ []) n ≡ Some x
at_last xs x n h = subst (λ m. slice_get (xs ++ x ∷ []) m ≡ Some x) (sym h) (ended xs x) where
  ended : {A : Type 0} (xs : List A) (x : A) → slice_get (xs ++ x ∷ []) (length xs) ≡ Some x
  ended [] x = refl
  ended (y ∷ xs) x = ended xs x

pub at_end : {A : Type 0} (xs : List A) (x : A) (ys : List A) (n : ℕ) → n ≡ length xs → slice_get ((xs ++ x ∷ []) ++ ys) n ≡ Some x
at_end xs x ys n h = front_some (xs ++ x ∷ []) ys x n (at_last xs x n h)

pub map_reverse : {A B : Type 0} (f : A → B) (xs : List A) → map f (reverse xs) ≡ reverse (map f xs)
map_reverse f [] = refl
map_reverse f (x ∷ xs) =
    ap (map f) (reverse-append (x ∷ []) xs)
    ∙ (map-append f (reverse xs) (x ∷ [])
    ∙ (ap (λ ys. ys ++ f x ∷ []) (map_reverse f xs) ∙ sym (reverse-append (f x ∷ []) (map f xs))))
