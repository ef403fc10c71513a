-- Lists that grow at their front.
use Rattle.std.proofs.Common.{◌≡◌, List, [], ◌∷◌, ◌++◌, map, reverse, refl, sym, subst, ap, ◌∙◌, append_assoc}
use mathlib.Core.List.{reverse-cons}
use Rattle.legal_programs.specs.Growing.{IsLonger}

pub longer_same : {X : Type 0} (xs ys : List X) → ys ≡ xs → IsLonger xs ys
longer_same xs ys e = record { more = []; is = e }

pub longer_by : {X : Type 0} (x : X) (xs : List X) → IsLonger xs (x ∷ xs)
longer_by x xs = record { more = x ∷ []; is = refl }

pub longer_both : {X : Type 0} (xs ys zs : List X) → IsLonger xs ys → IsLonger ys zs → IsLonger xs zs
longer_both xs ys zs h k = record {
  more = k.more ++ h.more;
  is = k.is ∙ (ap (λ l. k.more ++ l) h.is ∙ sym (append_assoc k.more h.more xs));
}

-- what holds of a longer list holds of the shorter one, if it holds behind a first item
pub of_shorter : {X : Type 0} (P : List X → Type 0) → ((x : X) (xs : List X) → P (x ∷ xs) → P xs) → (xs ys : List X) → IsLonger xs ys → P ys → P xs
of_shorter {X = X} P behind xs ys h all = drop_all h.more (transport_to h.is all)
  where
    drop_all : (more : List X) → P (more ++ xs) → P xs
    drop_all [] k = k
    drop_all (x ∷ more) k = drop_all more (behind x (more ++ xs) k)

    transport_to : ys ≡ (h.more ++ xs) → P ys → P (h.more ++ xs)
    transport_to e k = subst P e k

-- what is made of each item
pub map_joined : {X Y : Type 0} (f : X → Y) (xs ys : List X) → map f (xs ++ ys) ≡ (map f xs ++ map f ys)
map_joined f [] ys = refl
map_joined f (x ∷ xs) ys = ap (λ zs. f x ∷ zs) (map_joined f xs ys)

pub map_reversed : {X Y : Type 0} (f : X → Y) (xs : List X) → map f (reverse xs) ≡ reverse (map f xs)
map_reversed f [] = refl
map_reversed f (x ∷ xs) =
    ap (map f) (reverse-cons x xs) ∙ (map_joined f (reverse xs) (x ∷ []) ∙ (ap (λ ys. ys ++ f x ∷ []) (map_reversed f xs) ∙ sym (reverse-cons (f x) (map f xs))))
