-- Sorted vectors of which each stands once are those that were sorted.
use Rattle.std.proofs.Common.{◌≡◌, ℕ, suc, zero, ◌<◌, Bool, true, List, [], ◌∷◌, length, get_or, ◌==◌, ◌&&◌, false, refl, sym, ap, subst, ◌∙◌, eqb-true, eq-eqb, Contains, IsPermutation, inl, inr, arith}
use Rattle.std.specs.Cmp.{IsEquivalence}
use Rattle.std.specs.List.{dedup}
use Rattle.std.specs.List.Retain.{IsFiltered, DiffersFromLast}
use Rattle.std.proofs.lemmas.List.Filters.{dedup_is}
use Rattle.std.proofs.lemmas.List.Sorted.{Contains-permutation, IsPermutation-sym}
use Rattle.std.proofs.lemmas.List.Kept.{Contains-dedup, Contains-from_dedup}
use Rattle.cov_base.specs.declared.event.Vector.{Vector}
use Rattle.cov_base.specs.contracts.event.VectorPartialEq.TheImpl.{ghosts as derived}
use Rattle.annotated_report.specs.Members.{Has, AreAlike}

-- an item that is contained stands somewhere, and the other way round
has_at : {X : Type 0} (xs : List X) (x : X) (k : ℕ) → k < length xs → get_or xs k x ≡ x → Has xs x
has_at [] x k within is = absurd (omega arith)
has_at (y ∷ xs) x zero within is = inl is
has_at (y ∷ xs) x (suc k) within is = inr (has_at xs x k (omega arith) is)

has_of : {X : Type 0} (xs : List X) (x : X) → Contains xs x → Has xs x
has_of xs x has = has_at xs x has.0 has.1 has.2

contains_of : {X : Type 0} (xs : List X) (x : X) → Has xs x → Contains xs x
contains_of [] x some = absurd some
contains_of (y ∷ xs) x some = elim some [
  | inl is ↦ (zero, omega arith, is)
  | inr later ↦ let rest = contains_of xs x later in (suc rest.0, omega (arith, rest.1), rest.2)
]

-- a permutation of a list, once each item stands once, has the items of the list
pub once_alike : {X : Type 0} (E : X → X → Bool) → IsEquivalence E → ((x y : X) → E x y ≡ true → x ≡ y)
    → (xs sorted : List X) → IsPermutation xs sorted → AreAlike (dedup E sorted) xs
once_alike E laws exact xs sorted same = (
  λ x some. has_of xs x (Contains-permutation sorted xs x (IsPermutation-sym xs sorted same)
      (Contains-from_dedup E sorted x (contains_of (dedup E sorted) x some))),
  λ x some. has_of (dedup E sorted) x (Contains-dedup laws exact sorted x (Contains-permutation xs sorted x same (contains_of xs x some))),
)

-- ---- vectors

part_left : (a b : Bool) → (a && b) ≡ true → a ≡ true
part_left true b h = refl
part_left false b h = h

part_right : (a b : Bool) → (a && b) ≡ true → b ≡ true
part_right true b h = h
part_right false b h = cc

exact : (v w : Vector) → derived.eq v w ≡ true → v ≡ w
exact v w h =
    let seen : v.seen ≡ w.seen = eqb-true v.seen w.seen (part_left (v.seen == w.seen) (v.value == w.value) h) in
    let value : v.value ≡ w.value = eqb-true v.value w.value (part_right (v.seen == w.seen) (v.value == w.value) h) in
    λ i. record { seen = seen i; value = value i }

itself : (v : Vector) → derived.eq v v ≡ true
itself v = ap (λ b. b && v.value == v.value) (eq-eqb v.seen v.seen refl) ∙ eq-eqb v.value v.value refl

one_way : (a b : Bool) → (a ≡ true → b ≡ true) → (b ≡ true → a ≡ true) → a ≡ b
one_way true b f g = sym (f refl)
one_way false true f g = g refl
one_way false false f g = refl

laws : IsEquivalence derived.eq
laws = record {
  refl = itself;
  symm = λ v w. one_way (derived.eq v w) (derived.eq w v) (λ h. subst (λ (u : Vector). derived.eq u v ≡ true) (exact v w h) (itself v))
      (λ h. subst (λ (u : Vector). derived.eq u w ≡ true) (exact w v h) (itself w));
  congr = λ v w u h. ap (λ (x : Vector). derived.eq x u) (exact v w h);
}

-- sorted vectors of which each stands once are those that were sorted
pub vectors_alike : (vectors sorted kept : List Vector) → IsPermutation vectors sorted → IsFiltered (DiffersFromLast derived.eq) [] sorted kept → AreAlike kept vectors
vectors_alike vectors sorted kept same filtered =
    subst (λ (xs : List Vector). AreAlike xs vectors) (sym (dedup_is derived.eq sorted kept filtered)) (once_alike derived.eq laws exact vectors sorted same)
