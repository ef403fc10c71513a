-- What holds everywhere or somewhere in a list.
use Rattle.std.proofs.Common.{◌≡◌, List, [], ◌∷◌, inl, inr, refl, subst}
use Rattle.cov_base.specs.Lists.{Everywhere, Somewhere}

pub everywhere-map : {X : Type 0} (P Q : X → Type 0) → ((x : X) → P x → Q x) → (xs : List X) → Everywhere P xs → Everywhere Q xs
everywhere-map P Q f [] h = tt
everywhere-map P Q f (x ∷ xs) h = (f x h.0, everywhere-map P Q f xs h.1)

-- each item of a list stands in it
pub itself : {X : Type 0} (xs : List X) → Everywhere (λ x. Somewhere (λ y. y ≡ x) xs) xs
itself [] = tt
itself (x ∷ xs) = (inl refl, everywhere-map (λ y. Somewhere (λ z. z ≡ y) xs) (λ y. Somewhere (λ z. z ≡ y) (x ∷ xs)) (λ y h. inr h) xs (itself xs))

-- what holds everywhere holds of an item
pub everywhere-item : {X : Type 0} (P : X → Type 0) (y : X) (xs : List X) → Everywhere P xs → Somewhere (λ x. x ≡ y) xs → P y
everywhere-item P y [] h at = absurd at
everywhere-item P y (x ∷ xs) h at =
    elim at [ inl e ↦ subst P e h.0 | inr there ↦ everywhere-item P y xs h.1 there ]
