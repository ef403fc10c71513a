-- A type with a new identity is known beside those before.
use Rattle.std.proofs.Common.{◌≡◌, ◌<◌, ◌+◌, ℕ, nat_eq, true, List, [], ◌∷◌, ◌++◌, refl, sym, ap, ◌∙◌, arith, inl, inr}
use Rattle.std.specs.Prelude.{◌&&◌}
use Rattle.std.proofs.lemmas.Bool.{eqb-true, false≢true}
use Rattle.ada_meaning.specs.Program.{Program}
use Rattle.ada_meaning.specs.Types.{Owner, here, of_instance}
use Rattle.ada_rules.specs.Environment.{State, Env, owner_of, new_identity}
use Rattle.ada_rules.specs.Types.{Identity, integer, natural, positive, boolean, declared_in, same_owner, same_identity, AdaType, identity_of}
use Rattle.legal_laws.specs.Known.{AreApart}
use Rattle.legal_laws.specs.Standing.{with_type, with_types, AreOlder}
use Rattle.legal_laws.proofs.Passing.{both_true}
use Rattle.legal_laws.proofs.AlikeTypes.{alike_equal}

owner_is : (a b : Owner) → same_owner a b ≡ true → a ≡ b
owner_is here here h = refl
owner_is (of_instance i) (of_instance j) h = ap of_instance (eqb-true i j h)
owner_is here (of_instance j) h = absurd (false≢true h)
owner_is (of_instance i) here h = absurd (false≢true h)

number_is : (o q : Owner) (u v n m : ℕ) → (same_owner o q && nat_eq u v && nat_eq n m) ≡ true → declared_in o u n ≡ declared_in q v m
number_is o q u v n m h =
    let last = both_true (same_owner o q && nat_eq u v) (nat_eq n m) h in
    let first = both_true (same_owner o q) (nat_eq u v) last.0 in
    λ i. declared_in (owner_is o q first.0 i) (eqb-true u v first.1 i) (eqb-true n m last.1 i)

pub identity_is : (i j : Identity) → same_identity i j ≡ true → i ≡ j
identity_is integer integer h = refl
identity_is natural natural h = refl
identity_is positive positive h = refl
identity_is boolean boolean h = refl
identity_is (declared_in o u n) (declared_in q v m) h = number_is o q u v n m h
identity_is i j h = absurd (false≢true h)

abbrev number_in : Identity → ℕ → ℕ
number_in (declared_in o u n) m = n
number_in i m = m

pub same_number : (o : Owner) (u n m : ℕ) → declared_in o u n ≡ declared_in o u m → n ≡ m
same_number o u n m e = ap (λ i. number_in i 0) e

not_less : (n : ℕ) → n < n → ⊥
not_less n h = omega (arith, h)

module _ (declared : AdaType → Type 0) (env : Env) (s : State) (new : AdaType) (is : identity_of new ≡ new_identity env s) (older : AreOlder declared env s) where
  is_older : (t : AdaType) → declared t → identity_of t ≡ identity_of new → ⊥
  is_older t h e = not_less s.types (older t s.types h (e ∙ is))

  pub apart_with : (p : Program) → AreApart p declared → AreApart p (with_type declared new)
  apart_with p apart t u (inl h) (inl k) same = apart t u h k same
  apart_with p apart t u (inl h) (inr k) same =
      absurd (is_older t h (identity_is (identity_of t) (identity_of u) same ∙ ap identity_of k))
  apart_with p apart t u (inr h) (inl k) same =
      absurd (is_older u k (sym (identity_is (identity_of t) (identity_of u) same) ∙ ap identity_of h))
  apart_with p apart t u (inr h) (inr k) same = alike_equal p t u (h ∙ sym k)

  pub older_with : (after : State) → after.types ≡ s.types + 1 → AreOlder (with_type declared new) env after
  older_with after more t n (inl h) e = let few = older t n h e in omega (arith, few, more)
  older_with after more t n (inr h) e =
      let at = same_number (owner_of env) env.unit_number n s.types (sym e ∙ ap identity_of h ∙ is) in omega (arith, at, more)

pub types_joined : (declared : AdaType → Type 0) (ts us : List AdaType) → with_types declared (ts ++ us) ≡ with_types (with_types declared ts) us
types_joined declared [] us = refl
types_joined declared (t ∷ ts) us = types_joined (with_type declared t) ts us

pub types_more : (declared : AdaType → Type 0) (ts : List AdaType) (t : AdaType) → declared t → with_types declared ts t
types_more declared [] t h = h
types_more declared (u ∷ ts) t h = types_more (with_type declared u) ts t (inl h)
