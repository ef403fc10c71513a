-- Types as they are seen through an instance: alike with what they are in its text, closed, and known apart beside the types that were there.
use Rattle.std.proofs.Common.{◌≡◌, ℕ, true, false, List, ◌++◌, map, Option, Some, None, slice_get, refl, sym, ap, ◌∙◌, subst, ◌⊎◌, inl, inr}
use Rattle.std.specs.Prelude.{◌&&◌}
use Rattle.std.proofs.lemmas.Bool.{eq-eqb}
use Rattle.cov_base.specs.Lists.{Everywhere}
use Rattle.ada_meaning.specs.Program.{Program}
use Rattle.ada_meaning.specs.Resolved.{shape_in}
use Rattle.ada_meaning.specs.Seen.{range_seen}
use Rattle.ada_meaning.specs.Types.{Owner, here, of_instance, Range}
use Rattle.ada_meaning.proofs.SeenShapes.{seen_shape}
use Rattle.ada_rules.specs.Types.{Identity, integer, natural, positive, boolean, declared_in, same_owner, same_identity, AdaType, integer_type, enumeration, formal_type, array_type, record_type, AdaSubtype, of_type, identity_of, type_in, base, is_scalar, type_in_tree}
use Rattle.ada_rules.specs.Entities.{Actual, object_actual, type_actual, routine_actual, own_identity, given_type, identity_seen, type_seen}
use Rattle.ada_rules.specs.Environment.{Env, owner_of}
use Rattle.ada_rules.proofs.Seen.{subtype_in_instance}
use Rattle.legal_laws.specs.Known.{AreAlikeTypes, AreApart, IsOneOf, IsKnownType}
use Rattle.legal_laws.specs.Standing.{with_types}
use Rattle.legal_laws.proofs.Passing.{every_both}
use Rattle.legal_laws.proofs.AlikeTypes.{unconstrained, alike_same, alike_turned, alike_both}
use Rattle.legal_laws.proofs.Identities.{identity_is, same_number}
use Rattle.legal_laws.proofs.SeenEntities.{scalar_seen, AreSeenAs}
use Rattle.legal_programs.specs.Closed.{IsClosedType, IsOwned}
use Rattle.legal_programs.proofs.ClosedEntities.{shape_anywhere, type_seen_closed}
use Rattle.legal_texts.proofs.LibraryItems.{IsOfUnit}
use Rattle.legal_texts.proofs.OneOf.{in_first, in_second, in_either, one_so, of_mapped, mapped_one, every_mapped, one_added}

-- an identity that hangs on no text round it: a predefined one, or one of what stands in no generic or in an instance
abbrev pub IsOwnedIdentity : Identity → Type 0
IsOwnedIdentity (declared_in o u n) = IsOwned o
IsOwnedIdentity i = Unit {0}

-- an identity of what is declared in this instance
abbrev pub IsOfInstance : ℕ → Identity → Type 0
IsOfInstance k (declared_in (of_instance i) u n) = i ≡ k
IsOfInstance k i = ⊥

-- a type that the whole program may know
abbrev pub IsWorldType : AdaType → Type 0
IsWorldType t = IsClosedType t × IsOwnedIdentity (identity_of t)

-- a type that the text of this generic declares
pub record IsOfText (g : ℕ) (t : AdaType) : Type 0 where
  pub number : ℕ
  pub is : identity_of t ≡ declared_in here g number

pub unit_text : (env : Env) (t : AdaType) → owner_of env ≡ here → IsOfUnit env t → IsOfText env.unit_number t
unit_text env t own h = record { number = h.number; is = h.is ∙ ap (λ o. declared_in o env.unit_number h.number) own }

-- identities are the same as themselves
owner_itself : (o : Owner) → same_owner o o ≡ true
owner_itself here = refl
owner_itself (of_instance i) = eq-eqb i i refl

identity_itself : (i : Identity) → same_identity i i ≡ true
identity_itself integer = refl
identity_itself natural = refl
identity_itself positive = refl
identity_itself boolean = refl
identity_itself (declared_in o u n) = λ i. owner_itself o i && eq-eqb u u refl i && eq-eqb n n refl i

pub identity_same : (i j : Identity) → i ≡ j → same_identity i j ≡ true
identity_same i j e = subst (λ x. same_identity i x ≡ true) e (identity_itself i)

-- identities through an instance
identity_owned : (k : ℕ) (i : Identity) → IsOwnedIdentity (identity_seen k i)
identity_owned k integer = tt
identity_owned k natural = tt
identity_owned k positive = tt
identity_owned k boolean = tt
identity_owned k (declared_in here u n) = tt
identity_owned k (declared_in (of_instance j) u n) = tt

own_owned : (i : Identity) → IsOwnedIdentity (own_identity i)
own_owned integer = tt
own_owned natural = tt
own_owned positive = tt
own_owned boolean = tt
own_owned (declared_in here u n) = tt
own_owned (declared_in (of_instance j) u n) = tt

identity_still : (k : ℕ) (i : Identity) → IsOwnedIdentity i → identity_seen k i ≡ i
identity_still k integer h = refl
identity_still k natural h = refl
identity_still k positive h = refl
identity_still k boolean h = refl
identity_still k (declared_in here u n) h = absurd h
identity_still k (declared_in (of_instance j) u n) h = refl

own_still : (i : Identity) → IsOwnedIdentity i → own_identity i ≡ i
own_still integer h = refl
own_still natural h = refl
own_still positive h = refl
own_still boolean h = refl
own_still (declared_in here u n) h = absurd h
own_still (declared_in (of_instance j) u n) h = refl

given_owned : (a : Option Actual) → IsOwnedIdentity (identity_of (given_type a))
given_owned None = tt
given_owned (Some (object_actual e)) = tt
given_owned (Some (routine_actual r)) = tt
given_owned (Some (type_actual (of_type (integer_type i) r))) = own_owned i
given_owned (Some (type_actual (of_type (enumeration i n) r))) = own_owned i
given_owned (Some (type_actual (of_type (formal_type i k b) r))) = tt
given_owned (Some (type_actual (of_type (array_type i x c) r))) = tt
given_owned (Some (type_actual (of_type (record_type i fs) r))) = tt

module _ (k : ℕ) (actuals : List Actual) where
  pub seen_owned : (t : AdaType) → IsOwnedIdentity (identity_of (type_seen k actuals t))
  seen_owned (integer_type i) = identity_owned k i
  seen_owned (enumeration i n) = identity_owned k i
  seen_owned (formal_type i j b) = given_owned (slice_get actuals j)
  seen_owned (array_type i x c) = identity_owned k i
  seen_owned (record_type i fs) = identity_owned k i

  pub seen_world : (t : AdaType) → IsWorldType (type_seen k actuals t)
  seen_world t = (type_seen_closed k actuals t, seen_owned t)

  -- what is closed keeps its identity
  closed_identity : (t : AdaType) → IsClosedType t → identity_of (type_seen k actuals t) ≡ identity_seen k (identity_of t)
  closed_identity (integer_type i) h = refl
  closed_identity (enumeration i n) h = refl
  closed_identity (formal_type i j b) h = absurd h
  closed_identity (array_type i x c) h = refl
  closed_identity (record_type i fs) h = refl

  pub seen_identity : (t : AdaType) → IsWorldType t → identity_of (type_seen k actuals t) ≡ identity_of t
  seen_identity t h = closed_identity t h.0 ∙ identity_still k (identity_of t) h.1

module _ (p : Program) where
  -- a composite type through an instance has the shape that it has in the instance
  seen_composite : (k : ℕ) (actuals : List Actual) (t : AdaType) (inst : ℕ) (s : Range) → is_scalar t ≡ false
      → shape_in p inst (type_in_tree (type_seen k actuals t) s) ≡ shape_in p k (type_in_tree t base)
  seen_composite k actuals t inst s h =
      ap (shape_in p inst)
      (unconstrained (type_seen k actuals t) s (range_seen k base) (scalar_seen k actuals t ∙ h) ∙ subtype_in_instance k actuals (of_type t base))
      ∙ seen_shape p inst k (type_in_tree t base)

  -- a closed type is seen through an instance as one that is alike
  pub alike_seen : (k : ℕ) (actuals : List Actual) (t : AdaType) → IsClosedType t → AreAlikeTypes p t (type_seen k actuals t)
  alike_seen k actuals t closed = record {
    scalar = sym (scalar_seen k actuals t);
    shape = λ h inst r s.
        ap (shape_in p inst) (unconstrained t r base h)
        ∙ (shape_anywhere p inst k (of_type t base) ((tt, tt), closed) ∙ sym (seen_composite k actuals t inst s h));
  }

  -- types that are alike are seen so
  pub both_seen : (k : ℕ) (actuals : List Actual) (t u : AdaType) → AreAlikeTypes p t u
      → AreAlikeTypes p (type_seen k actuals t) (type_seen k actuals u)
  both_seen k actuals t u alike = record {
    scalar = scalar_seen k actuals t ∙ (alike.scalar ∙ sym (scalar_seen k actuals u));
    shape = λ h inst r s.
        let first = sym (scalar_seen k actuals t) ∙ h in
        seen_composite k actuals t inst r first
        ∙ (alike.shape first k base base ∙ sym (seen_composite k actuals u inst s (sym alike.scalar ∙ first)));
  }

  -- types of the whole program with those of a generic's text
  pub apart_joined : (g : ℕ) (ds new : List AdaType) → AreApart p (IsOneOf ds) → AreApart p (IsOneOf new)
      → Everywhere (λ t. IsOwnedIdentity (identity_of t)) ds → Everywhere (IsOfText g) new → AreApart p (IsOneOf (ds ++ new))
  apart_joined g ds new old of_new owned texts t u there also same = both (in_either ds new t there) (in_either ds new u also)
    where
      equal : identity_of t ≡ identity_of u
      equal = identity_is (identity_of t) (identity_of u) same

      never : (v w : AdaType) → IsOneOf ds v → IsOneOf new w → identity_of v ≡ identity_of w → ⊥
      never v w a b e =
          subst IsOwnedIdentity (e ∙ (one_so (IsOfText g) new texts w b).is) (one_so (λ y. IsOwnedIdentity (identity_of y)) ds owned v a)

      both : IsOneOf ds t ⊎ IsOneOf new t → IsOneOf ds u ⊎ IsOneOf new u → AreAlikeTypes p t u
      both (inl a) (inl b) = old t u a b same
      both (inl a) (inr b) = absurd (never t u a b equal)
      both (inr a) (inl b) = absurd (never u t b a (sym equal))
      both (inr a) (inr b) = of_new t u a b same

  pub apart_of_added : (declared : AdaType → Type 0) (new : List AdaType) → AreApart p (with_types declared new) → AreApart p (IsOneOf new)
  apart_of_added declared new apart t u there also same = apart t u (one_added declared new t there) (one_added declared new u also) same

  -- one of the types that were there, or alike with one of them, and of its identity
  pub record IsAsOld (ds : List AdaType) (t : AdaType) : Type 0 where
    pub type : AdaType
    pub there : IsOneOf ds type
    pub identity : identity_of t ≡ identity_of type
    pub alike : AreAlikeTypes p type t

  as_itself : (ds : List AdaType) (t : AdaType) → IsOneOf ds t → IsAsOld ds t
  as_itself ds t h = record { type = t; there = h; identity = refl; alike = alike_same p t }

  module _ (k : ℕ) (actuals : List Actual) (ds new : List AdaType) where
    -- the types that are known behind an instance: with those that were there, all that its text knows, as it is seen through the instance
    abbrev pub types_through : List AdaType
    types_through = ds ++ map (type_seen k actuals) (ds ++ new)

    pub old_through : (t : AdaType) → IsOneOf ds t → IsOneOf types_through t
    old_through t h = in_first ds (map (type_seen k actuals) (ds ++ new)) t h

    pub seen_through : (t : AdaType) → IsOneOf (ds ++ new) t → IsOneOf types_through (type_seen k actuals t)
    seen_through t h =
        in_second ds (map (type_seen k actuals) (ds ++ new)) (type_seen k actuals t) (mapped_one (type_seen k actuals) (ds ++ new) t h)

    pub world_through : Everywhere IsWorldType ds → Everywhere IsWorldType types_through
    world_through all =
        every_both IsWorldType ds (map (type_seen k actuals) (ds ++ new)) all
        (every_mapped (type_seen k actuals) IsWorldType (ds ++ new) (seen_world k actuals))

    -- a type of the text, as it is seen through the instance
    pub record IsSeenNew (g : ℕ) (t : AdaType) : Type 0 where
      pub type : AdaType
      pub there : IsOneOf new type
      pub is : type_seen k actuals type ≡ t
      pub number : ℕ
      pub before : identity_of type ≡ declared_in here g number
      pub identity : identity_of t ≡ declared_in (of_instance k) g number

    module _ (all : Everywhere IsWorldType ds) (integers : IsOneOf ds (integer_type integer))
        (of_actuals : (j : ℕ) (t : AdaSubtype) → slice_get actuals j ≡ Some (type_actual t) → IsOneOf ds (type_in t)) where
      -- the type that is given for a formal one was there
      given_if : (a : Option Actual) → ((t : AdaSubtype) → a ≡ Some (type_actual t) → IsOneOf ds (type_in t)) → IsOneOf ds (given_type a)
      given_if None types = integers
      given_if (Some (object_actual e)) types = integers
      given_if (Some (routine_actual r)) types = integers
      given_if (Some (type_actual (of_type (integer_type i) r))) types =
          let there = types (of_type (integer_type i) r) refl in
          subst (IsOneOf ds) (ap integer_type (sym (own_still i (one_so IsWorldType ds all (integer_type i) there).1))) there
      given_if (Some (type_actual (of_type (enumeration i n) r))) types =
          let there = types (of_type (enumeration i n) r) refl in
          subst (IsOneOf ds) (ap (λ j. enumeration j n) (sym (own_still i (one_so IsWorldType ds all (enumeration i n) there).1))) there
      given_if (Some (type_actual (of_type (formal_type i j b) r))) types = integers
      given_if (Some (type_actual (of_type (array_type i x c) r))) types = integers
      given_if (Some (type_actual (of_type (record_type i fs) r))) types = integers

      pub given_there : (j : ℕ) → IsOneOf ds (given_type (slice_get actuals j))
      given_there j = given_if (slice_get actuals j) (of_actuals j)

      given_known : (inst : ℕ) (types : AdaType → Type 0) (a : Option Actual) → types (given_type a) → IsKnownType p inst types (given_type a)
      given_known inst types None h = h
      given_known inst types (Some (object_actual e)) h = h
      given_known inst types (Some (routine_actual r)) h = h
      given_known inst types (Some (type_actual (of_type (integer_type i) r))) h = h
      given_known inst types (Some (type_actual (of_type (enumeration i n) r))) h = h
      given_known inst types (Some (type_actual (of_type (formal_type i j b) r))) h = h
      given_known inst types (Some (type_actual (of_type (array_type i x c) r))) h = h
      given_known inst types (Some (type_actual (of_type (record_type i fs) r))) h = h

      -- what the text knows is known behind the instance, as it is seen through it
      pub seen_as : (inst : ℕ) → AreSeenAs p inst k actuals (IsOneOf (ds ++ new)) (IsOneOf types_through)
      seen_as inst = record {
        declared = seen_through;
        given = λ j. given_known inst (IsOneOf types_through) (slice_get actuals j) (old_through (given_type (slice_get actuals j)) (given_there j));
      }

      module _ (g : ℕ) (texts : Everywhere (IsOfText g) new) where
        old_seen : (t : AdaType) → IsOneOf ds t → IsAsOld ds (type_seen k actuals t)
        old_seen t h =
            let world = one_so IsWorldType ds all t h in
            record { type = t; there = h; identity = seen_identity k actuals t world; alike = alike_seen k actuals t world.0 }

        abbrev Origin : AdaType → Type 0
        Origin t = IsAsOld ds t ⊎ IsSeenNew g t

        new_seen : (t : AdaType) → IsOneOf new t → IsOfText g t → Origin (type_seen k actuals t)
        new_seen (integer_type i) h x =
            inr (record { type = integer_type i; there = h; is = refl; number = x.number; before = x.is; identity = ap (identity_seen k) x.is })
        new_seen (enumeration i n) h x =
            inr (record { type = enumeration i n; there = h; is = refl; number = x.number; before = x.is; identity = ap (identity_seen k) x.is })
        new_seen (formal_type i j b) h x = inl (as_itself ds (given_type (slice_get actuals j)) (given_there j))
        new_seen (array_type i a c) h x =
            inr (record { type = array_type i a c; there = h; is = refl; number = x.number; before = x.is; identity = ap (identity_seen k) x.is })
        new_seen (record_type i fs) h x =
            inr (record { type = record_type i fs; there = h; is = refl; number = x.number; before = x.is; identity = ap (identity_seen k) x.is })

        of_seen : (t : AdaType) → IsOneOf ds t ⊎ IsOneOf new t → Origin (type_seen k actuals t)
        of_seen t (inl h) = inl (old_seen t h)
        of_seen t (inr h) = new_seen t h (one_so (IsOfText g) new texts t h)

        -- where each type that is known behind the instance comes from
        pub origin : (t : AdaType) → IsOneOf types_through t → IsAsOld ds t ⊎ IsSeenNew g t
        origin t h = by_list (in_either ds (map (type_seen k actuals) (ds ++ new)) t h)
          where
            by_list : IsOneOf ds t ⊎ IsOneOf (map (type_seen k actuals) (ds ++ new)) t → Origin t
            by_list (inl there) = inl (as_itself ds t there)
            by_list (inr there) =
                let from = of_mapped (type_seen k actuals) (ds ++ new) t there in
                subst Origin from.is (of_seen from.from (in_either ds new from.from from.there))

        -- its identity is one of those that were there, or one of the instance
        pub identity_through : (Q : Identity → Type 0) → ((t : AdaType) → IsOneOf ds t → Q (identity_of t))
            → ((n : ℕ) → Q (declared_in (of_instance k) g n)) → (t : AdaType) → IsOneOf types_through t → Q (identity_of t)
        identity_through Q old of_new t h = by_origin (origin t h)
          where
            by_origin : Origin t → Q (identity_of t)
            by_origin (inl a) = subst Q (sym a.identity) (old a.type a.there)
            by_origin (inr a) = subst Q (sym a.identity) (of_new a.number)

    -- the law that carries the types of the whole program over an instance that is new
    pub apart_seen : (g : ℕ) → AreApart p (IsOneOf ds) → AreApart p (IsOneOf new) → Everywhere IsWorldType ds → Everywhere (IsOfText g) new
        → ((t : AdaType) → IsOneOf ds t → IsOfInstance k (identity_of t) → ⊥) → IsOneOf ds (integer_type integer)
        → ((j : ℕ) (t : AdaSubtype) → slice_get actuals j ≡ Some (type_actual t) → IsOneOf ds (type_in t))
        → AreApart p (IsOneOf types_through)
    apart_seen g old of_new all texts fresh integers of_actuals t u there also same =
        both (origin all integers of_actuals g texts t there) (origin all integers of_actuals g texts u also)
      where
        equal : identity_of t ≡ identity_of u
        equal = identity_is (identity_of t) (identity_of u) same

        never : (v : AdaType) (n : ℕ) → IsOneOf ds v → identity_of v ≡ declared_in (of_instance k) g n → ⊥
        never v n a e = fresh v a (subst (IsOfInstance k) (sym e) refl)

        both : IsAsOld ds t ⊎ IsSeenNew g t → IsAsOld ds u ⊎ IsSeenNew g u → AreAlikeTypes p t u
        both (inl a) (inl b) =
            alike_both p t a.type u (alike_turned p a.type t a.alike)
            (alike_both p a.type b.type u
            (old a.type b.type a.there b.there (identity_same (identity_of a.type) (identity_of b.type) (sym a.identity ∙ (equal ∙ b.identity)))) b.alike)
        both (inl a) (inr b) = absurd (never a.type b.number a.there (sym a.identity ∙ (equal ∙ b.identity)))
        both (inr a) (inl b) = absurd (never b.type a.number b.there (sym b.identity ∙ (sym equal ∙ a.identity)))
        both (inr a) (inr b) =
            let number = same_number (of_instance k) g a.number b.number (sym a.identity ∙ (equal ∙ b.identity)) in
            let alike = of_new a.type b.type a.there b.there
            (identity_same (identity_of a.type) (identity_of b.type) (a.before ∙ (ap (declared_in here g) number ∙ sym b.before))) in
            subst (λ x. AreAlikeTypes p x u) a.is
            (subst (AreAlikeTypes p (type_seen k actuals a.type)) b.is (both_seen k actuals a.type b.type alike))
