-- What stands somewhere in a list.
use Rattle.std.proofs.Common.{◌≡◌, ◌⊎◌, inl, inr, ⊎_elim, List, [], ◌∷◌, ◌++◌, map, refl, sym, subst}
use Rattle.cov_base.specs.Lists.{Somewhere}

pub weaker : {X : Type 0} (P Q : X → Type 0) → ((x : X) → P x → Q x) → (xs : List X) → Somewhere P xs → Somewhere Q xs
weaker P Q f [] s = absurd s
weaker P Q f (x ∷ xs) s = ⊎_elim (λ here. inl (f x here)) (λ there. inr (weaker P Q f xs there)) s

pub in_map : {X Y : Type 0} (f : X → Y) (P : Y → Type 0) (xs : List X) → Somewhere P (map f xs) → Somewhere (λ x. P (f x)) xs
in_map f P [] s = absurd s
in_map f P (x ∷ xs) s = ⊎_elim (λ here. inl here) (λ there. inr (in_map f P xs there)) s

pub to_map : {X Y : Type 0} (f : X → Y) (P : Y → Type 0) (xs : List X) → Somewhere (λ x. P (f x)) xs → Somewhere P (map f xs)
to_map f P [] s = absurd s
to_map f P (x ∷ xs) s = ⊎_elim (λ here. inl here) (λ there. inr (to_map f P xs there)) s

pub in_append : {X : Type 0} (P : X → Type 0) (xs ys : List X) → Somewhere P (xs ++ ys) → Somewhere P xs ⊎ Somewhere P ys
in_append P [] ys s = inr s
in_append P (x ∷ xs) ys s =
    ⊎_elim (λ here. inl (inl here)) (λ there. ⊎_elim (λ left. inl (inr left)) (λ right. inr right) (in_append P xs ys there)) s

pub in_left : {X : Type 0} (P : X → Type 0) (xs ys : List X) → Somewhere P xs → Somewhere P (xs ++ ys)
in_left P [] ys s = absurd s
in_left P (x ∷ xs) ys s = ⊎_elim (λ here. inl here) (λ there. inr (in_left P xs ys there)) s

pub in_right : {X : Type 0} (P : X → Type 0) (xs ys : List X) → Somewhere P ys → Somewhere P (xs ++ ys)
in_right P [] ys s = s
in_right P (x ∷ xs) ys s = inr (in_right P xs ys s)

-- an item that is so, and that it is in the list
pub record One {X : Type 0} (P : X → Type 0) (xs : List X) : Type 0 where
  pub item : X
  pub is_so : P item
  pub stands : Somewhere (λ x. x ≡ item) xs

pub one_of : {X : Type 0} (P : X → Type 0) (xs : List X) → Somewhere P xs → One P xs
one_of P [] s = absurd s
one_of P (x ∷ xs) s =
    ⊎_elim (λ here. record { item = x; is_so = here; stands = inl refl })
    (λ there. later (one_of P xs there)) s
  where
    later : One P xs → One P (x ∷ xs)
    later one = record { item = one.item; is_so = one.is_so; stands = inr one.stands }

pub at_one : {X : Type 0} (P : X → Type 0) (xs : List X) (x : X) → P x → Somewhere (λ y. y ≡ x) xs → Somewhere P xs
at_one P xs x is_so s = weaker (λ y. y ≡ x) P (λ y e. subst P (sym e) is_so) xs s
