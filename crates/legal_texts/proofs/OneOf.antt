-- What is one of two lists put together, of a list that a function was applied to, or of types that were added.
use Rattle.std.proofs.Common.{◌≡◌, List, [], ◌∷◌, ◌++◌, map, refl, sym, ap, subst, ◌⊎◌, inl, inr}
use Rattle.cov_base.specs.Lists.{Everywhere}
use Rattle.ada_rules.specs.Types.{AdaType}
use Rattle.legal_laws.specs.Known.{IsOneOf}
use Rattle.legal_laws.specs.Standing.{with_type, with_types}
use Rattle.legal_laws.proofs.Identities.{types_more}

-- two lists
pub in_first : {X : Type 0} (xs ys : List X) (x : X) → IsOneOf xs x → IsOneOf (xs ++ ys) x
in_first [] ys x h = absurd h
in_first (y ∷ xs) ys x (inl h) = inl h
in_first (y ∷ xs) ys x (inr h) = inr (in_first xs ys x h)

pub in_second : {X : Type 0} (xs ys : List X) (x : X) → IsOneOf ys x → IsOneOf (xs ++ ys) x
in_second [] ys x h = h
in_second (y ∷ xs) ys x h = inr (in_second xs ys x h)

pub in_either : {X : Type 0} (xs ys : List X) (x : X) → IsOneOf (xs ++ ys) x → IsOneOf xs x ⊎ IsOneOf ys x
in_either [] ys x h = inr h
in_either (y ∷ xs) ys x (inl h) = inl (inl h)
in_either (y ∷ xs) ys x (inr h) = one_more (in_either xs ys x h)
  where
    one_more : IsOneOf xs x ⊎ IsOneOf ys x → IsOneOf (y ∷ xs) x ⊎ IsOneOf ys x
    one_more (inl k) = inl (inr k)
    one_more (inr k) = inr k

-- what holds of each
pub one_so : {X : Type 0} (P : X → Type 0) (xs : List X) → Everywhere P xs → (x : X) → IsOneOf xs x → P x
one_so P [] all x h = absurd h
one_so P (y ∷ xs) all x (inl h) = subst P h all.0
one_so P (y ∷ xs) all x (inr h) = one_so P xs all.1 x h

-- a function of each
module _ (f : AdaType → AdaType) where
  pub record IsMapped (xs : List AdaType) (y : AdaType) : Type 0 where
    pub from : AdaType
    pub there : IsOneOf xs from
    pub is : f from ≡ y

  pub of_mapped : (xs : List AdaType) (y : AdaType) → IsOneOf (map f xs) y → IsMapped xs y
  of_mapped [] y h = absurd h
  of_mapped (x ∷ xs) y (inl h) = record { from = x; there = inl refl; is = h }
  of_mapped (x ∷ xs) y (inr h) =
      let rest = of_mapped xs y h in
      record { from = rest.from; there = inr rest.there; is = rest.is }

  pub mapped_one : (xs : List AdaType) (x : AdaType) → IsOneOf xs x → IsOneOf (map f xs) (f x)
  mapped_one [] x h = absurd h
  mapped_one (y ∷ xs) x (inl h) = inl (ap f h)
  mapped_one (y ∷ xs) x (inr h) = inr (mapped_one xs x h)

  pub every_mapped : (P : AdaType → Type 0) (xs : List AdaType) → ((x : AdaType) → P (f x)) → Everywhere P (map f xs)
  every_mapped P [] so = tt
  every_mapped P (x ∷ xs) so = (so x, every_mapped P xs so)

-- types that were added to others
pub added_or_not : (P : AdaType → Type 0) (us : List AdaType) (t : AdaType) → with_types P us t → P t ⊎ IsOneOf us t
added_or_not P [] t h = inl h
added_or_not P (u ∷ us) t h = of_one (added_or_not (with_type P u) us t h)
  where
    of_one : with_type P u t ⊎ IsOneOf us t → P t ⊎ IsOneOf (u ∷ us) t
    of_one (inl (inl k)) = inl k
    of_one (inl (inr e)) = inr (inl (sym e))
    of_one (inr k) = inr (inr k)

pub one_added : (P : AdaType → Type 0) (us : List AdaType) (t : AdaType) → IsOneOf us t → with_types P us t
one_added P [] t h = absurd h
one_added P (u ∷ us) t (inl e) = types_more (with_type P u) us t (inr (sym e))
one_added P (u ∷ us) t (inr k) = one_added (with_type P u) us t k

-- as one list
pub to_joined : (ts us : List AdaType) (t : AdaType) → with_types (IsOneOf ts) us t → IsOneOf (ts ++ us) t
to_joined ts us t h = by_origin (added_or_not (IsOneOf ts) us t h)
  where
    by_origin : IsOneOf ts t ⊎ IsOneOf us t → IsOneOf (ts ++ us) t
    by_origin (inl k) = in_first ts us t k
    by_origin (inr k) = in_second ts us t k

pub from_joined : (ts us : List AdaType) (t : AdaType) → IsOneOf (ts ++ us) t → with_types (IsOneOf ts) us t
from_joined ts us t h = by_origin (in_either ts us t h)
  where
    by_origin : IsOneOf ts t ⊎ IsOneOf us t → with_types (IsOneOf ts) us t
    by_origin (inl k) = types_more (IsOneOf ts) us t k
    by_origin (inr k) = one_added (IsOneOf ts) us t k
