-- What looks no further than some constants has the same value wherever these have the same values.
use Rattle.std.proofs.Common.{◌≡◌, ◌≤◌, ◌<◌, ◌+◌, ℕ, nat_eq, ℤ, pos, Bool, true, false, if◌then◌else◌, List, [], ◌∷◌, ◌++◌, length, reverse, Option, Some, None, option_map, slice_get, refl, sym, ap, ◌∙◌, subst, arith, length-append, append-nil}
use Rattle.std.specs.Prelude.{unwrap_or}
use Rattle.std.specs.Option.{option_and_then}
use mathlib.Core.List.{reverse-cons}
use Rattle.std.proofs.lemmas.Bool.{eqb-true, eq-eqb, false≢true}
use Rattle.ada_meaning.specs.Arithmetic.{count_between, sign_of}
use Rattle.ada_meaning.specs.Program.{GenericConstant}
use Rattle.ada_meaning.specs.Statics.{in_base, computed, bounds_between, InstanceValues, static_value, static_bounds, within, value_of_constant, with_constants, constant_values, constants_of}
use Rattle.ada_meaning.specs.Types.{Static, static_number, static_formal, static_constant, static_first, static_last, static_length, static_sign, static_operation, static_of, Range, between, formal_range, range_of}
use Rattle.legal_laws.specs.Scoped.{AreValued}
use Rattle.legal_laws.proofs.ScopedValues.{first_values, last_of, constants_joined, only_if}
use Rattle.legal_instances.specs.Within.{Made, IsWithin, IsRangeWithin, AreConstantsWithin, own_of}

-- values agree in an instance up to so many constants, and in all that were made up to those that they had
pub record AgreeAt (v w : InstanceValues) (inst n : ℕ) : Type 0 where
  pub objects : (k : ℕ) → v.object inst k ≡ w.object inst k
  pub types : (k : ℕ) → v.type inst k ≡ w.type inst k
  pub constants : (k : ℕ) → k < n → v.constant inst k ≡ w.constant inst k

abbrev pub Agree : Made → (v w : InstanceValues) → Type 0
Agree had v w = (i : ℕ) → had.is_made i ≡ true → AgreeAt v w i (had.count i)

module _ (had : Made) (v w : InstanceValues) (others : Agree had v w) where
  mutual
    pub value_agrees : (b : Bool) (inst n : ℕ) → AgreeAt v w inst n → (e : Static) → IsWithin had b n e → static_value v inst e ≡ static_value w inst e
    value_agrees b inst n at (static_number x) h = refl
    value_agrees b inst n at (static_formal k) h = at.objects k
    value_agrees b inst n at (static_constant k) h = at.constants k h
    value_agrees b inst n at (static_first r) h = ap (option_map (λ c. c.low)) (bounds_agree b inst n at r h)
    value_agrees b inst n at (static_last r) h = ap (option_map (λ c. c.high)) (bounds_agree b inst n at r h)
    value_agrees b inst n at (static_length r) h = ap (option_and_then (λ c. in_base (pos (count_between c.low c.high)))) (bounds_agree b inst n at r h)
    value_agrees b inst n at (static_sign s e) h = ap (option_and_then (λ x. in_base (sign_of s x))) (value_agrees b inst n at e h)
    value_agrees b inst n at (static_operation o e f) h =
        λ i. option_and_then (λ x. option_and_then (computed o x) (value_agrees b inst n at f h.1 i)) (value_agrees b inst n at e h.0 i)
    value_agrees b inst n at (static_of i e) h = value_agrees true i (had.count i) (others i h.0) e h.1

    pub bounds_agree : (b : Bool) (inst n : ℕ) → AgreeAt v w inst n → (r : Range) → IsRangeWithin had b n r → static_bounds v inst r ≡ static_bounds w inst r
    bounds_agree b inst n at (between e f) h = λ i. bounds_between (value_agrees b inst n at e h.0 i) (value_agrees b inst n at f h.1 i)
    bounds_agree b inst n at (formal_range k) h = at.types k
    bounds_agree b inst n at (range_of i r) h = bounds_agree true i (had.count i) (others i h.0) r h.1

  pub constant_agrees : (inst n : ℕ) → AgreeAt v w inst n → (c : GenericConstant) → IsWithin had true n c.value → IsRangeWithin had true n c.range
      → value_of_constant v inst c ≡ value_of_constant w inst c
  constant_agrees inst n at c h k = λ i. within (value_agrees true inst n at c.value h i) (bounds_agree true inst n at c.range k i)

-- constants of one generic in order, from a number on
abbrev pub AreListWithin : Made → ℕ → List GenericConstant → Type 0
AreListWithin had n [] = Unit {0}
AreListWithin had n (c ∷ cs) = (IsWithin had true n c.value × IsRangeWithin had true n c.range) × AreListWithin had (n + 1) cs

list_end : (had : Made) (n : ℕ) (cs : List GenericConstant) (c : GenericConstant) → AreListWithin had n cs
    → IsWithin had true (n + length cs) c.value → IsRangeWithin had true (n + length cs) c.range → AreListWithin had n (cs ++ c ∷ [])
list_end had n [] c all h k =
    let none : n + 0 ≡ n = omega (arith) in ((subst (λ m. IsWithin had true m c.value) none h, subst (λ m. IsRangeWithin had true m c.range) none k), tt)
list_end had n (d ∷ cs) c all h k =
    let count : n + length (d ∷ cs) ≡ n + 1 + length cs = omega (arith) in
    (all.0, list_end had (n + 1) cs c all.1 (subst (λ m. IsWithin had true m c.value) count h) (subst (λ m. IsRangeWithin had true m c.range) count k))

count_reversed : (g : ℕ) (cs : List GenericConstant) → length (constants_of g (reverse cs)) ≡ length (constants_of g cs)
count_reversed g [] = refl
count_reversed g (c ∷ cs) =
    let both = length-append (constants_of g (reverse cs)) (only_if (nat_eq c.generic g) c) in
    let rest = count_reversed g cs in
    let first = count_if (nat_eq c.generic g) (constants_of g cs) in
    ap (λ xs. length (constants_of g xs)) (reverse-cons c cs) ∙ (ap length (constants_joined g (reverse cs) c) ∙ omega (arith, both, rest, first))
  where
    count_if : (b : Bool) (ds : List GenericConstant) → length (if b then c ∷ ds else ds) ≡ length ds + length (only_if b c)
    count_if true ds = omega (arith)
    count_if false ds = omega (arith)

pub own_count : (g : ℕ) (cs : List GenericConstant) → length (constants_of g (reverse cs)) ≡ own_of (Some g) cs
own_count g cs = count_reversed g cs

pub in_order_within : (had : Made) (g : ℕ) (cs : List GenericConstant) → AreConstantsWithin had cs → AreListWithin had 0 (constants_of g (reverse cs))
in_order_within had g [] h = tt
in_order_within had g (c ∷ cs) h =
    subst (AreListWithin had 0) (sym (ap (constants_of g) (reverse-cons c cs) ∙ constants_joined g (reverse cs) c))
    (by_generic (nat_eq c.generic g) refl (in_order_within had g cs h.1))
  where
    number_is : c.generic ≡ g → own_of (Some c.generic) cs ≡ 0 + length (constants_of g (reverse cs))
    number_is e = let count = own_count g cs in ap (λ x. own_of (Some x) cs) e ∙ omega (arith, count)

    append_none : (xs : List GenericConstant) → AreListWithin had 0 xs → AreListWithin had 0 (xs ++ [])
    append_none xs k = subst (AreListWithin had 0) (sym (append-nil xs)) k

    by_generic : (b : Bool) → nat_eq c.generic g ≡ b → AreListWithin had 0 (constants_of g (reverse cs)) → AreListWithin had 0 (constants_of g (reverse cs) ++ only_if b c)
    by_generic true e rest =
        let number = number_is (eqb-true c.generic g e) in
        list_end had 0 (constants_of g (reverse cs)) c rest
        (subst (λ m. IsWithin had true m c.value) number h.0.0) (subst (λ m. IsRangeWithin had true m c.range) number h.0.1)
    by_generic false e rest = append_none (constants_of g (reverse cs)) rest

-- with the first constants of an instance
module _ (had : Made) (v w : InstanceValues) (others : Agree had v w) (inst : ℕ)
    (objects : (k : ℕ) → v.object inst k ≡ w.object inst k) (types : (k : ℕ) → v.type inst k ≡ w.type inst k) where
  with_first : (xs : List (Option ℤ)) → Agree had (with_constants inst xs v) (with_constants inst xs w)
  with_first xs i made = record {
    objects = (others i made).objects;
    types = (others i made).types;
    constants = λ k less. by_instance k (nat_eq i inst) ((others i made).constants k less);
  }
    where
      by_instance : (k : ℕ) (b : Bool) → v.constant i k ≡ w.constant i k
          → (if b then unwrap_or (slice_get xs k) None else v.constant i k) ≡ (if b then unwrap_or (slice_get xs k) None else w.constant i k)
      by_instance k true e = refl
      by_instance k false e = e

  own_first : (xs : List (Option ℤ)) (n : ℕ) → AgreeAt (with_constants inst xs v) (with_constants inst xs w) inst n
  own_first xs n = record {
    objects = objects;
    types = types;
    constants = λ k less. by_instance k (nat_eq inst inst) (eq-eqb inst inst refl);
  }
    where
      by_instance : (k : ℕ) (b : Bool) → b ≡ true
          → (if b then unwrap_or (slice_get xs k) None else v.constant inst k) ≡ (if b then unwrap_or (slice_get xs k) None else w.constant inst k)
      by_instance k true e = refl
      by_instance k false e = absurd (false≢true e)

  pub constants_agree : (xs : List (Option ℤ)) (cs : List GenericConstant) → AreListWithin had (length xs) cs → constant_values v inst xs cs ≡ constant_values w inst xs cs
  constants_agree xs [] h = refl
  constants_agree xs (c ∷ cs) h =
      let x = value_of_constant (with_constants inst xs v) inst c in
      let y = value_of_constant (with_constants inst xs w) inst c in
      let same : x ≡ y = constant_agrees had (with_constants inst xs v) (with_constants inst xs w) (with_first xs) inst (length xs) (own_first xs (length xs)) c h.0.0 h.0.1 in
      let long : length (xs ++ x ∷ []) ≡ length xs + 1 = length-append xs (x ∷ []) in
      constants_agree (xs ++ x ∷ []) cs (subst (λ n. AreListWithin had n cs) (sym long) h.1)
      ∙ ap (λ z. constant_values w inst (xs ++ z ∷ []) cs) same

-- lists of values
pub values_joined : (v : InstanceValues) (inst : ℕ) (xs : List (Option ℤ)) (cs ds : List GenericConstant)
    → constant_values v inst xs (cs ++ ds) ≡ constant_values v inst (constant_values v inst xs cs) ds
values_joined v inst xs [] ds = refl
values_joined v inst xs (c ∷ cs) ds = values_joined v inst (xs ++ value_of_constant (with_constants inst xs v) inst c ∷ []) cs ds

pub values_length : (v : InstanceValues) (inst : ℕ) (xs : List (Option ℤ)) (cs : List GenericConstant) → length (constant_values v inst xs cs) ≡ length xs + length cs
values_length v inst xs [] = omega (arith)
values_length v inst xs (c ∷ cs) =
    let x = value_of_constant (with_constants inst xs v) inst c in
    let rest = values_length v inst (xs ++ x ∷ []) cs in
    let long = length-append xs (x ∷ []) in
    omega (arith, rest, long)

-- A constant that looks at the instance's own constants before it, and at what other instances have the same of.
pub record Looks (v w : InstanceValues) (inst n : ℕ) (c : GenericConstant) : Type 0 where
  pub bound : Made
  pub value : IsWithin bound true n c.value
  pub range : IsRangeWithin bound true n c.range
  pub own : bound.is_made inst ≡ true → bound.count inst ≤ n
  pub others : (i k : ℕ) → nat_eq i inst ≡ false → bound.is_made i ≡ true → k < bound.count i → v.constant i k ≡ w.constant i k

abbrev pub AllLook : (v w : InstanceValues) → (inst n : ℕ) → List GenericConstant → Type 0
AllLook v w inst n [] = Unit {0}
AllLook v w inst n (c ∷ cs) = Looks v w inst n c × AllLook v w inst (n + 1) cs

module _ (v w : InstanceValues) (inst : ℕ) (objects : (i k : ℕ) → v.object i k ≡ w.object i k) (types : (i k : ℕ) → v.type i k ≡ w.type i k) where
  -- the first constants of the instance have the values that they have at last
  module _ (xs : List (Option ℤ)) (own : (k : ℕ) → k < length xs → w.constant inst k ≡ unwrap_or (slice_get xs k) None) where
    at_own : AgreeAt (with_constants inst xs v) w inst (length xs)
    at_own = record { objects = objects inst; types = types inst; constants = λ k less. by_instance k less (nat_eq inst inst) (eq-eqb inst inst refl) }
      where
        by_instance : (k : ℕ) → k < length xs → (b : Bool) → b ≡ true → (if b then unwrap_or (slice_get xs k) None else v.constant inst k) ≡ w.constant inst k
        by_instance k less true e = sym (own k less)
        by_instance k less false e = absurd (false≢true e)

    at_others : (c : GenericConstant) → (h : Looks v w inst (length xs) c) → Agree h.bound (with_constants inst xs v) w
    at_others c h i made = record { objects = objects i; types = types i; constants = λ k less. by_instance k less (nat_eq i inst) refl }
      where
        by_instance : (k : ℕ) → k < h.bound.count i → (b : Bool) → nat_eq i inst ≡ b → (if b then unwrap_or (slice_get xs k) None else v.constant i k) ≡ w.constant i k
        by_instance k less true e =
            let same = eqb-true i inst e in
            let few = h.own (subst (λ j. h.bound.is_made j ≡ true) same made) in
            let below = subst (λ j. k < h.bound.count j) same less in
            sym (own k (omega (arith, few, below))) ∙ ap (λ j. w.constant j k) (sym same)
        by_instance k less false e = h.others i k e made less

    pub looks_same : (c : GenericConstant) → Looks v w inst (length xs) c → value_of_constant (with_constants inst xs v) inst c ≡ value_of_constant w inst c
    looks_same c h = constant_agrees h.bound (with_constants inst xs v) w (at_others c h) inst (length xs) at_own c h.value h.range

  pub all_valued : (xs : List (Option ℤ)) (cs : List GenericConstant) → ((k : ℕ) → w.constant inst k ≡ unwrap_or (slice_get (constant_values v inst xs cs) k) None)
      → AllLook v w inst (length xs) cs → AreValued w inst (length xs) cs
  all_valued xs [] own look = tt
  all_valued xs (c ∷ cs) own look =
      let x = value_of_constant (with_constants inst xs v) inst c in
      let long : length (xs ++ x ∷ []) ≡ length xs + 1 = length-append xs (x ∷ []) in
      let less : length xs < length (xs ++ x ∷ []) = omega (arith, long) in (
        own (length xs)
            ∙ (ap (λ o. unwrap_or o None) (first_values v inst (xs ++ x ∷ []) cs (length xs) less ∙ last_of xs x)
            ∙ looks_same xs (λ k below. own k ∙ ap (λ o. unwrap_or o None) (first_values v inst xs (c ∷ cs) k below)) c look.0),
        subst (λ n. AreValued w inst n cs) long
            (all_valued (xs ++ x ∷ []) cs own (subst (λ n. AllLook v w inst n cs) (sym long) look.1)),
      )
