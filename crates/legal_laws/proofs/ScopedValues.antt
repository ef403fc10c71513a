-- Constants that look no further than at those before them have the values of their expressions in the final values.
use Rattle.std.proofs.Common.{◌≡◌, ◌<◌, ◌+◌, ℕ, zero, suc, nat_eq, ℤ, pos, Bool, true, false, if◌then◌else◌, List, [], ◌∷◌, ◌++◌, length, Option, Some, None, option_map, slice_get, reverse, refl, sym, ap, ◌∙◌, subst, arith, length-append}
use Rattle.std.specs.Prelude.{unwrap_or}
use Rattle.std.specs.Option.{option_and_then}
use mathlib.Core.List.{reverse-cons}
use Rattle.std.proofs.lemmas.Bool.{eqb-true, false≢true}
use Rattle.ada_meaning.specs.Arithmetic.{count_between, sign_of}
use Rattle.ada_meaning.specs.Program.{GenericConstant}
use Rattle.ada_meaning.specs.Statics.{in_base, computed, bounds_between, InstanceValues, static_value, static_bounds, within, value_of_constant, with_constants, constant_values, constants_of}
use Rattle.ada_meaning.specs.Types.{Static, static_number, static_formal, static_constant, static_first, static_last, static_length, static_sign, static_operation, static_of, Range, between, formal_range, range_of}
use Rattle.ada_rules.specs.Statics.{Facts, constant_in, instance_values}
use Rattle.legal_laws.specs.Served.{HaveValues}
use Rattle.legal_laws.specs.Scoped.{IsScoped, IsScopedRange, up_to, AreScoped, AreValued}

module _ (v w : InstanceValues) (before : ℕ → ℕ) (objects : (i k : ℕ) → v.object i k ≡ w.object i k) (types : (i k : ℕ) → v.type i k ≡ w.type i k)
    (constants : (i k : ℕ) → k < before i → v.constant i k ≡ w.constant i k) where
  mutual
    pub value_same : (inst : ℕ) (e : Static) → IsScoped before inst e → static_value v inst e ≡ static_value w inst e
    value_same inst (static_number x) h = refl
    value_same inst (static_formal k) h = objects inst k
    value_same inst (static_constant k) h = constants inst k h
    value_same inst (static_first r) h = ap (option_map (λ b. b.low)) (bounds_same inst r h)
    value_same inst (static_last r) h = ap (option_map (λ b. b.high)) (bounds_same inst r h)
    value_same inst (static_length r) h = ap (option_and_then (λ b. in_base (pos (count_between b.low b.high)))) (bounds_same inst r h)
    value_same inst (static_sign s e) h = ap (option_and_then (λ x. in_base (sign_of s x))) (value_same inst e h)
    value_same inst (static_operation o e f) h =
        λ i. option_and_then (λ x. option_and_then (computed o x) (value_same inst f h.1 i)) (value_same inst e h.0 i)
    value_same inst (static_of i e) h = value_same i e h

    pub bounds_same : (inst : ℕ) (r : Range) → IsScopedRange before inst r → static_bounds v inst r ≡ static_bounds w inst r
    bounds_same inst (between e f) h = λ i. bounds_between (value_same inst e h.0 i) (value_same inst f h.1 i)
    bounds_same inst (formal_range k) h = types inst k
    bounds_same inst (range_of i r) h = bounds_same i r h

  pub constant_same : (inst : ℕ) (c : GenericConstant) → IsScoped before inst c.value → IsScopedRange before inst c.range
      → value_of_constant v inst c ≡ value_of_constant w inst c
  constant_same inst c h k = λ i. within (value_same inst c.value h i) (bounds_same inst c.range k i)

-- items of a list in front of others
in_front : {X : Type 0} (xs ys : List X) (k : ℕ) → k < length xs → slice_get (xs ++ ys) k ≡ slice_get xs k
in_front [] ys k h = absurd (none_less k h)
  where
    none_less : (k : ℕ) → k < 0 → ⊥
    none_less k h = omega (arith, h)
in_front (x ∷ xs) ys zero h = refl
in_front (x ∷ xs) ys (suc k) h = in_front xs ys k (omega (arith, h))

pub last_of : {X : Type 0} (xs : List X) (x : X) → slice_get (xs ++ x ∷ []) (length xs) ≡ Some x
last_of [] x = refl
last_of (y ∷ xs) x = last_of xs x

-- the first values stay
pub first_values : (v : InstanceValues) (inst : ℕ) (xs : List (Option ℤ)) (cs : List GenericConstant) (k : ℕ) → k < length xs
    → slice_get (constant_values v inst xs cs) k ≡ slice_get xs k
first_values v inst xs [] k h = refl
first_values v inst xs (c ∷ cs) k h =
    let x = value_of_constant (with_constants inst xs v) inst c in
    let long = length-append xs (x ∷ []) in
    first_values v inst (xs ++ x ∷ []) cs k (omega (arith, h, long)) ∙ in_front xs (x ∷ []) k h

module _ (v w : InstanceValues) (inst : ℕ) (had : ℕ → ℕ) (objects : (i k : ℕ) → v.object i k ≡ w.object i k) (types : (i k : ℕ) → v.type i k ≡ w.type i k)
    (others : (i k : ℕ) → nat_eq i inst ≡ false → k < had i → v.constant i k ≡ w.constant i k) where
  -- with the first constants of this instance, as far as a constant looks
  agreed : (xs : List (Option ℤ)) (cs : List GenericConstant) → ((k : ℕ) → w.constant inst k ≡ unwrap_or (slice_get (constant_values v inst xs cs) k) None)
      → (i k : ℕ) (b : Bool) → nat_eq i inst ≡ b → k < (if b then length xs else had i)
      → (if b then unwrap_or (slice_get xs k) None else v.constant i k) ≡ w.constant i k
  agreed xs cs own i k true e less =
      ap (λ o. unwrap_or o None) (sym (first_values v inst xs cs k less)) ∙ (sym (own k) ∙ ap (λ j. w.constant j k) (sym (eqb-true i inst e)))
  agreed xs cs own i k false e less = others i k e less

  pub constants_valued : (xs : List (Option ℤ)) (cs : List GenericConstant)
      → ((k : ℕ) → w.constant inst k ≡ unwrap_or (slice_get (constant_values v inst xs cs) k) None) → AreScoped inst had (length xs) cs
      → AreValued w inst (length xs) cs
  constants_valued xs [] own scoped = tt
  constants_valued xs (c ∷ cs) own scoped =
      let x = value_of_constant (with_constants inst xs v) inst c in
      let long : length (xs ++ x ∷ []) ≡ length xs + 1 = length-append xs (x ∷ []) in
      let less : length xs < length (xs ++ x ∷ []) = omega (arith, long) in (
        own (length xs)
            ∙ (ap (λ o. unwrap_or o None) (first_values v inst (xs ++ x ∷ []) cs (length xs) less ∙ last_of xs x)
            ∙ constant_same (with_constants inst xs v) w (up_to inst had (length xs)) objects types
            (λ i k h. agreed xs (c ∷ cs) own i k (nat_eq i inst) refl h) inst c scoped.0.0 scoped.0.1),
        subst (λ n. AreValued w inst n cs) long
            (constants_valued (xs ++ x ∷ []) cs own (subst (λ n. AreScoped inst had n cs) (sym long) scoped.1)),
      )

-- the constants of a generic, with the latest first
abbrev pub only_if : Bool → GenericConstant → List GenericConstant
only_if b c = if b then c ∷ [] else []

with_first : (b : Bool) (d : GenericConstant) (xs ys zs : List GenericConstant) → xs ≡ (ys ++ zs)
    → (if b then d ∷ xs else xs) ≡ ((if b then d ∷ ys else ys) ++ zs)
with_first true d xs ys zs h = ap (λ x. d ∷ x) h
with_first false d xs ys zs h = h

pub constants_joined : (g : ℕ) (cs : List GenericConstant) (c : GenericConstant)
    → constants_of g (cs ++ c ∷ []) ≡ (constants_of g cs ++ only_if (nat_eq c.generic g) c)
constants_joined g [] c = refl
constants_joined g (d ∷ cs) c =
    with_first (nat_eq d.generic g) d (constants_of g (cs ++ c ∷ [])) (constants_of g cs) (only_if (nat_eq c.generic g) c) (constants_joined g cs c)

count_if : (b : Bool) (c : GenericConstant) (cs : List GenericConstant) → length (if b then c ∷ cs else cs) ≡ length cs + length (only_if b c)
count_if true c cs = omega (arith)
count_if false c cs = omega (arith)

pub constants_count : (g : ℕ) (cs : List GenericConstant) → length (constants_of g (reverse cs)) ≡ length (constants_of g cs)
constants_count g [] = refl
constants_count g (c ∷ cs) =
    let both = length-append (constants_of g (reverse cs)) (only_if (nat_eq c.generic g) c) in
    let rest = constants_count g cs in
    let first = count_if (nat_eq c.generic g) c (constants_of g cs) in
    ap (λ xs. length (constants_of g xs)) (reverse-cons c cs) ∙ (ap length (constants_joined g (reverse cs) c) ∙ omega (arith, both, rest, first))

pub record AreBothValued (w : InstanceValues) (inst k : ℕ) (xs ys : List GenericConstant) : Type 0 where
  pub first : AreValued w inst k xs
  pub later : AreValued w inst (k + length xs) ys

valued_apart : (w : InstanceValues) (inst k : ℕ) (xs ys : List GenericConstant) → AreValued w inst k (xs ++ ys) → AreBothValued w inst k xs ys
valued_apart w inst k [] ys h =
    let none : k ≡ k + 0 = omega (arith) in record { first = tt; later = subst (λ n. AreValued w inst n ys) none h }
valued_apart w inst k (x ∷ xs) ys h =
    let rest = valued_apart w inst (k + 1) xs ys h.1 in
    let count : (k + 1) + length xs ≡ k + length (x ∷ xs) = omega (arith) in
    record { first = (h.0, rest.first); later = subst (λ n. AreValued w inst n ys) count rest.later }

one_valued : (w : InstanceValues) (inst k : ℕ) (b : Bool) (c : GenericConstant) → AreValued w inst k (only_if b c) → b ≡ true
    → w.constant inst k ≡ value_of_constant w inst c
one_valued w inst k true c h e = h.0
one_valued w inst k false c h e = absurd (false≢true e)

pub values_kept : (facts : List Facts) (inst g : ℕ) (cs : List GenericConstant) → AreValued (instance_values facts) inst 0 (constants_of g (reverse cs))
    → HaveValues facts inst g cs
values_kept facts inst g [] h = tt
values_kept facts inst g (c ∷ cs) h =
    let both = valued_apart (instance_values facts) inst 0 (constants_of g (reverse cs)) (only_if (nat_eq c.generic g) c)
    (subst (AreValued (instance_values facts) inst 0) (ap (constants_of g) (reverse-cons c cs) ∙ constants_joined g (reverse cs) c) h) in
    let number : 0 + length (constants_of g (reverse cs)) ≡ length (constants_of g cs) = (let count = constants_count g cs in omega (arith, count)) in (
      λ e. ap (λ k. constant_in facts inst k) (sym number)
          ∙ one_valued (instance_values facts) inst (0 + length (constants_of g (reverse cs))) (nat_eq c.generic g) c both.later e,
      values_kept facts inst g cs both.first,
    )
