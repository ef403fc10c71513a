-- Types that are declared, as a list that grows.
use Rattle.std.proofs.Common.{List, [], ◌∷◌, sym, inl, inr, subst}
use Rattle.std.specs.Prelude.{◌⊎◌}
use Rattle.cov_base.specs.Lists.{Everywhere}
use Rattle.ada_rules.specs.Types.{AdaType}
use Rattle.legal_laws.specs.Known.{IsOneOf}
use Rattle.legal_laws.specs.Standing.{with_type, with_types}

-- with these in front
abbrev pub added : List AdaType → List AdaType → List AdaType
added ts [] = ts
added ts (u ∷ us) = added (u ∷ ts) us

types_so : (P Q : AdaType → Type 0) → ((t : AdaType) → P t → Q t) → (us : List AdaType) (t : AdaType) → with_types P us t → with_types Q us t
types_so P Q so [] t h = so t h
types_so P Q so (u ∷ us) t h = types_so (with_type P u) (with_type Q u) with_one us t h
  where
    with_one : (t : AdaType) → with_type P u t → with_type Q u t
    with_one t (inl k) = inl (so t k)
    with_one t (inr e) = inr e

pub to_list : (ts us : List AdaType) (t : AdaType) → with_types (IsOneOf ts) us t → IsOneOf (added ts us) t
to_list ts [] t h = h
to_list ts (u ∷ us) t h = to_list (u ∷ ts) us t (types_so (with_type (IsOneOf ts) u) (IsOneOf (u ∷ ts)) with_one us t h)
  where
    with_one : (t : AdaType) → with_type (IsOneOf ts) u t → IsOneOf (u ∷ ts) t
    with_one t (inl k) = inr k
    with_one t (inr e) = inl (sym e)

pub from_list : (ts us : List AdaType) (t : AdaType) → IsOneOf (added ts us) t → with_types (IsOneOf ts) us t
from_list ts [] t h = h
from_list ts (u ∷ us) t h = types_so (IsOneOf (u ∷ ts)) (with_type (IsOneOf ts) u) with_one us t (from_list (u ∷ ts) us t h)
  where
    with_one : (t : AdaType) → IsOneOf (u ∷ ts) t → with_type (IsOneOf ts) u t
    with_one t (inl e) = inr (sym e)
    with_one t (inr k) = inl k

pub more_types : (ts us : List AdaType) (t : AdaType) → IsOneOf ts t → IsOneOf (added ts us) t
more_types ts [] t h = h
more_types ts (u ∷ us) t h = more_types (u ∷ ts) us t (inr h)

-- one of those before, or a new one
pub either_type : (P Q : AdaType → Type 0) (us : List AdaType) → Everywhere Q us → (t : AdaType) → with_types P us t → P t ⊎ Q t
either_type P Q [] all t h = inl h
either_type P Q (u ∷ us) all t h = of_one (either_type (with_type P u) Q us all.1 t h)
  where
    of_one : with_type P u t ⊎ Q t → P t ⊎ Q t
    of_one (inl (inl k)) = inl k
    of_one (inl (inr e)) = inr (subst Q (sym e) all.0)
    of_one (inr k) = inr k
