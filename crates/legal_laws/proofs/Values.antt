-- Static values of the typed program are those of the rules' facts, and lie in the base range; a demand that is met says that they are there.
use Rattle.std.proofs.Common.{◌≡◌, ◌++◌, nat_eq, ℕ, zero, suc, ℤ, pos, Bool, true, false, List, [], ◌∷◌, map, Option, Some, None, option_map, slice_get, IfSome, int_eq, if◌then◌else◌, refl, sym, ap, subst}
use Rattle.std.specs.Prelude.{◌&&◌, unwrap_or}
use Rattle.std.specs.Option.{option_and_then}
use Rattle.std.proofs.lemmas.Bool.{false≢true}
use Rattle.cov_base.specs.Lists.{Everywhere}
use Rattle.ada_meaning.specs.Arithmetic.{is_within, base_range, count_between, sign_of, exact, divides}
use Rattle.ada_meaning.specs.Program.{Bounds, GenericConstant, FormalActual, actual_object, actual_type, actual_subprogram, Instance, Program}
use Rattle.ada_meaning.specs.Resolved.{formal_of, formal_among, constant_of, constant_among}
use Rattle.ada_meaning.specs.Statics.{in_base, computed, InstanceValues, static_value, static_bounds, within, value_of_constant, with_constants, constant_values, constants_of, value_of_formal, bounds_of_formal, values_of}
use Rattle.ada_meaning.specs.Types.{Operator, Static, static_number, static_formal, static_constant, static_first, static_last, static_length, static_sign, static_operation, static_of, Range, between, formal_range, range_of}
use Rattle.ada_meaning.specs.WellFormed.{IsInBase, AreInBase, HasNumber}
use Rattle.ada_rules.specs.Statics.{Owed, Test, lies_in, chosen_in, in_order, Fact, number_fact, type_fact, result_fact, Facts, number_of_fact, bounds_of_fact, fact_in, constant_in, instance_values, value_in, bounds_in, is_in, is_ordered, holds, spans_in, Spans}
use Rattle.ada_rules.specs.Statics as statics
use Rattle.ada_rules.specs.Types.{range_in}
use Rattle.ada_rules.specs.Entities.{Actual, object_actual, type_actual, routine_actual}
use Rattle.ada_rules.specs.Instances.{fact_of, typed_actual}
use Rattle.legal_laws.specs.Valued.{AreOrdered, IsFactInBase, IsValueInBase, AreFactsInBase, IsAlike, AreAlike, HasFacts, HaveFacts}
use Rattle.legal_laws.proofs.Passing.{if_then, if_map, if_test, if_not}

-- an item of a list that has a property, and of two lists that are alike
item_in : {X : Type 0} (P : X → Type 0) (xs : List X) (k : ℕ) → Everywhere P xs → IfSome (slice_get xs k) P
item_in P [] k h = tt
item_in P (x ∷ xs) zero h = h.0
item_in P (x ∷ xs) (suc k) h = item_in P xs k h.1

abbrev AreBoth : {X Y : Type 0} → (X → Y → Type 0) → Option X → Option Y → Type 0
AreBoth R None None = Unit {0}
AreBoth R (Some x) (Some y) = R x y
AreBoth R o r = ⊥

facts_of_instance : (is : List Instance) (fs : List Facts) (n : ℕ) → HaveFacts is fs → AreBoth HasFacts (slice_get is n) (slice_get fs n)
facts_of_instance [] [] n h = tt
facts_of_instance [] (f ∷ fs) n h = absurd h
facts_of_instance (i ∷ is) [] n h = absurd h
facts_of_instance (i ∷ is) (f ∷ fs) zero h = h.0
facts_of_instance (i ∷ is) (f ∷ fs) (suc n) h = facts_of_instance is fs n h.1

fact_of_actual : (xs : List FormalActual) (fs : List Fact) (k : ℕ) → AreAlike xs fs → AreBoth IsAlike (slice_get xs k) (slice_get fs k)
fact_of_actual [] [] k h = tt
fact_of_actual [] (f ∷ fs) k h = absurd h
fact_of_actual (x ∷ xs) [] k h = absurd h
fact_of_actual (x ∷ xs) (f ∷ fs) zero h = h.0
fact_of_actual (x ∷ xs) (f ∷ fs) (suc k) h = fact_of_actual xs fs k h.1

-- what instances have
number_alike : (a : Option FormalActual) (f : Option Fact) → AreBoth IsAlike a f → value_of_formal a ≡ number_of_fact f
number_alike None None h = refl
number_alike None (Some f) h = absurd h
number_alike (Some a) None h = absurd h
number_alike (Some (actual_object e x)) (Some (number_fact y)) h = ap in_base h
number_alike (Some (actual_object e x)) (Some (type_fact b c)) h = absurd h
number_alike (Some (actual_object e x)) (Some (result_fact b)) h = absurd h
number_alike (Some (actual_type r b c)) (Some (number_fact y)) h = absurd h
number_alike (Some (actual_type r b c)) (Some (type_fact d e)) h = refl
number_alike (Some (actual_type r b c)) (Some (result_fact d)) h = absurd h
number_alike (Some (actual_subprogram t)) (Some (number_fact y)) h = absurd h
number_alike (Some (actual_subprogram t)) (Some (type_fact d e)) h = absurd h
number_alike (Some (actual_subprogram t)) (Some (result_fact d)) h = refl

bounds_alike : (a : Option FormalActual) (f : Option Fact) → AreBoth IsAlike a f → bounds_of_formal a ≡ bounds_of_fact f
bounds_alike None None h = refl
bounds_alike None (Some f) h = absurd h
bounds_alike (Some a) None h = absurd h
bounds_alike (Some (actual_object e x)) (Some (number_fact y)) h = refl
bounds_alike (Some (actual_object e x)) (Some (type_fact b c)) h = absurd h
bounds_alike (Some (actual_object e x)) (Some (result_fact b)) h = absurd h
bounds_alike (Some (actual_type r b c)) (Some (number_fact y)) h = absurd h
bounds_alike (Some (actual_type r b c)) (Some (type_fact d e)) h = ap (λ x. Some x) h
bounds_alike (Some (actual_type r b c)) (Some (result_fact d)) h = absurd h
bounds_alike (Some (actual_subprogram t)) (Some (number_fact y)) h = absurd h
bounds_alike (Some (actual_subprogram t)) (Some (type_fact d e)) h = absurd h
bounds_alike (Some (actual_subprogram t)) (Some (result_fact d)) h = refl

formals_alike : (i : Option Instance) (f : Option Facts) (k : ℕ) → AreBoth HasFacts i f
    → AreBoth IsAlike (formal_among i k) (option_and_then (λ x. slice_get x.formals k) f)
formals_alike None None k h = tt
formals_alike None (Some f) k h = absurd h
formals_alike (Some i) None k h = absurd h
formals_alike (Some i) (Some f) k h = fact_of_actual i.actuals f.formals k h.formals

constants_alike : (i : Option Instance) (f : Option Facts) (k : ℕ) → AreBoth HasFacts i f
    → constant_among i k ≡ option_and_then (λ x. unwrap_or (slice_get x.constants k) None) f
constants_alike None None k h = refl
constants_alike None (Some f) k h = absurd h
constants_alike (Some i) None k h = absurd h
constants_alike (Some i) (Some f) k h = ap (λ xs. unwrap_or (slice_get xs k) None) h.constants

module _ (p : Program) (facts : List Facts) (has : HaveFacts p.instances facts) where
  formal_alike : (n k : ℕ) → AreBoth IsAlike (formal_of p n k) (fact_in facts n k)
  formal_alike zero k = tt
  formal_alike (suc n) k = formals_alike (slice_get p.instances n) (slice_get facts n) k (facts_of_instance p.instances facts n has)

  constant_alike : (n k : ℕ) → constant_of p n k ≡ constant_in facts n k
  constant_alike zero k = refl
  constant_alike (suc n) k = constants_alike (slice_get p.instances n) (slice_get facts n) k (facts_of_instance p.instances facts n has)

  pub values_alike : values_of p ≡ instance_values facts
  values_alike = λ i. record {
    object = λ n k. number_alike (formal_of p n k) (fact_in facts n k) (formal_alike n k) i;
    type = λ n k. bounds_alike (formal_of p n k) (fact_in facts n k) (formal_alike n k) i;
    constant = λ n k. constant_alike n k i;
  }

  pub value_alike : (inst : ℕ) (e : Static) → static_value (values_of p) inst e ≡ value_in facts inst e
  value_alike inst e = ap (λ v. static_value v inst e) values_alike

  pub range_alike : (inst : ℕ) (r : Range) → static_bounds (values_of p) inst r ≡ bounds_in facts inst r
  range_alike inst r = ap (λ v. static_bounds v inst r) values_alike

-- what an instance is given as, and its facts
actual_alike : (facts : List Facts) (a : Actual) → IsAlike (typed_actual facts a) (fact_of facts a)
actual_alike facts (object_actual e) = refl
actual_alike facts (type_actual t) = refl
actual_alike facts (routine_actual r) = tt

pub actuals_alike : (facts : List Facts) (xs : List Actual) → AreAlike (map (typed_actual facts) xs) (map (fact_of facts) xs)
actuals_alike facts [] = tt
actuals_alike facts (x ∷ xs) = (actual_alike facts x, actuals_alike facts xs)

-- values in the base range
pub record AreValuesInBase (v : InstanceValues) : Type 0 where
  pub object : (i k : ℕ) → IfSome (v.object i k) IsInBase
  pub type : (i k : ℕ) → IfSome (v.type i k) AreInBase
  pub constant : (i k : ℕ) → IfSome (v.constant i k) IsInBase

pub in_base_there : (x : ℤ) → IfSome (in_base x) IsInBase
in_base_there x = if_test IsInBase (is_within base_range x) (Some x) (λ h. h)

computed_there : (o : Operator) (x y : ℤ) → IfSome (computed o x y) IsInBase
computed_there o x y = if_not IsInBase (divides o && int_eq y (pos 0)) (in_base (exact o x y)) (λ h. in_base_there (exact o x y))

module _ (v : InstanceValues) (are : AreValuesInBase v) where
  mutual
    pub value_in_base : (inst : ℕ) (e : Static) → IfSome (static_value v inst e) IsInBase
    value_in_base inst (static_number x) = in_base_there x
    value_in_base inst (static_formal k) = are.object inst k
    value_in_base inst (static_constant k) = are.constant inst k
    value_in_base inst (static_first r) = if_map AreInBase IsInBase (λ b. b.low) (static_bounds v inst r) (bounds_in_base inst r) (λ b h. h.0)
    value_in_base inst (static_last r) = if_map AreInBase IsInBase (λ b. b.high) (static_bounds v inst r) (bounds_in_base inst r) (λ b h. h.1)
    value_in_base inst (static_length r) =
        if_then AreInBase IsInBase (λ b. in_base (pos (count_between b.low b.high))) (static_bounds v inst r) (bounds_in_base inst r)
        (λ b h. in_base_there (pos (count_between b.low b.high)))
    value_in_base inst (static_sign s e) =
        if_then IsInBase IsInBase (λ x. in_base (sign_of s x)) (static_value v inst e) (value_in_base inst e) (λ x h. in_base_there (sign_of s x))
    value_in_base inst (static_operation o e f) =
        if_then IsInBase IsInBase (λ x. option_and_then (computed o x) (static_value v inst f)) (static_value v inst e) (value_in_base inst e)
        (λ x h. if_then IsInBase IsInBase (computed o x) (static_value v inst f) (value_in_base inst f) (λ y k. computed_there o x y))
    value_in_base inst (static_of i e) = value_in_base i e

    pub bounds_in_base : (inst : ℕ) (r : Range) → IfSome (static_bounds v inst r) AreInBase
    bounds_in_base inst (between e f) =
        if_then IsInBase AreInBase (λ x. option_map (λ y. record { low = x; high = y }) (static_value v inst f)) (static_value v inst e)
        (value_in_base inst e)
        (λ x h. if_map IsInBase AreInBase (λ y. record { low = x; high = y }) (static_value v inst f) (value_in_base inst f) (λ y k. (h, k)))
    bounds_in_base inst (formal_range k) = are.type inst k
    bounds_in_base inst (range_of i r) = bounds_in_base i r

number_in_base : (f : Option Fact) → IfSome (number_of_fact f) IsInBase
number_in_base None = tt
number_in_base (Some (number_fact x)) = in_base_there x
number_in_base (Some (type_fact b c)) = tt
number_in_base (Some (result_fact b)) = tt

type_in_base : (f : Option Fact) → IfSome f IsFactInBase → IfSome (bounds_of_fact f) AreInBase
type_in_base None h = tt
type_in_base (Some (number_fact x)) h = tt
type_in_base (Some (type_fact b c)) h = h
type_in_base (Some (result_fact b)) h = tt

constant_in_base : (o : Option (Option ℤ)) → IfSome o IsValueInBase → IfSome (unwrap_or o None) IsInBase
constant_in_base None h = tt
constant_in_base (Some x) h = h

module _ (facts : List Facts) (are : Everywhere AreFactsInBase facts) where
  fact_in_base : (n k : ℕ) → IfSome (fact_in facts n k) IsFactInBase
  fact_in_base zero k = tt
  fact_in_base (suc n) k =
      if_then AreFactsInBase IsFactInBase (λ i. slice_get i.formals k) (slice_get facts n) (item_in AreFactsInBase facts n are)
      (λ f h. item_in IsFactInBase f.formals k h.formals)

  fixed_in_base : (n k : ℕ) → IfSome (constant_in facts n k) IsInBase
  fixed_in_base zero k = tt
  fixed_in_base (suc n) k =
      if_then AreFactsInBase IsInBase (λ i. unwrap_or (slice_get i.constants k) None) (slice_get facts n) (item_in AreFactsInBase facts n are)
      (λ f h. constant_in_base (slice_get f.constants k) (item_in IsValueInBase f.constants k h.constants))

  pub facts_in_base : AreValuesInBase (instance_values facts)
  facts_in_base = record {
    object = λ n k. number_in_base (fact_in facts n k);
    type = λ n k. type_in_base (fact_in facts n k) (fact_in_base n k);
    constant = fixed_in_base;
  }

-- bounds that are set to a formal type, and the constants of an instance, lie there too
bounds_or_base : (o : Option Bounds) → IfSome o AreInBase → AreInBase (unwrap_or o base_range)
bounds_or_base None h = (refl, refl)
bounds_or_base (Some b) h = h

pub actuals_in_base : (facts : List Facts) (xs : List Actual) → Everywhere AreFactsInBase facts → Everywhere IsFactInBase (map (fact_of facts) xs)
actuals_in_base facts [] are = tt
actuals_in_base facts (object_actual e ∷ xs) are = (tt, actuals_in_base facts xs are)
actuals_in_base facts (type_actual t ∷ xs) are =
    (bounds_or_base (bounds_in facts 0 (range_in t)) (bounds_in_base (instance_values facts) (facts_in_base facts are) 0 (range_in t)), actuals_in_base facts xs are)
actuals_in_base facts (routine_actual r ∷ xs) are = (tt, actuals_in_base facts xs are)

kept_within : (o : Option ℤ) (b : Option Bounds) → IfSome o IsInBase → IfSome (within o b) IsInBase
kept_within o b h =
    if_then IsInBase IsInBase (λ y. option_and_then (λ c. if is_within c y then Some y else None) b) o h
    (λ y k. in_bounds y b k)
  where
    in_bounds : (y : ℤ) (b : Option Bounds) → IsInBase y → IfSome (option_and_then (λ c. if is_within c y then Some y else None) b) IsInBase
    in_bounds y None k = tt
    in_bounds y (Some c) k = if_test IsInBase (is_within c y) (Some y) (λ t. k)

here_or_there : (xs : List (Option ℤ)) (v : InstanceValues) (b : Bool) (i k : ℕ) → Everywhere IsValueInBase xs → AreValuesInBase v
    → IfSome (if b then unwrap_or (slice_get xs k) None else v.constant i k) IsInBase
here_or_there xs v true i k all are = constant_in_base (slice_get xs k) (item_in IsValueInBase xs k all)
here_or_there xs v false i k all are = are.constant i k

with_in_base : (n : ℕ) (xs : List (Option ℤ)) (v : InstanceValues) → Everywhere IsValueInBase xs → AreValuesInBase v
    → AreValuesInBase (with_constants n xs v)
with_in_base n xs v all are = record {
  object = are.object;
  type = are.type;
  constant = λ i k. here_or_there xs v (nat_eq i n) i k all are;
}

one_more : {X : Type 0} (P : X → Type 0) (xs : List X) (x : X) → Everywhere P xs → P x → Everywhere P (xs ++ x ∷ [])
one_more P [] x all h = (h, tt)
one_more P (y ∷ xs) x all h = (all.0, one_more P xs x all.1 h)

constants_in_base : (v : InstanceValues) (n : ℕ) (xs : List (Option ℤ)) (cs : List GenericConstant) → AreValuesInBase v → Everywhere IsValueInBase xs
    → Everywhere IsValueInBase (constant_values v n xs cs)
constants_in_base v n xs [] are all = all
constants_in_base v n xs (c ∷ cs) are all =
    constants_in_base v n (xs ++ value_of_constant (with_constants n xs v) n c ∷ []) cs are
    (one_more IsValueInBase xs (value_of_constant (with_constants n xs v) n c) all
    (kept_within (static_value (with_constants n xs v) n c.value) (static_bounds (with_constants n xs v) n c.range)
    (value_in_base (with_constants n xs v) (with_in_base n xs v all are) n c.value)))

pub with_constants_in_base : (facts : List Facts) (cs : List GenericConstant) (n : ℕ) (f : Facts) → Everywhere AreFactsInBase facts → AreFactsInBase f
    → AreFactsInBase (statics.with_constants facts cs n f)
with_constants_in_base facts cs n f all own = record {
  formals = own.formals;
  constants = constants_in_base (instance_values facts) n [] (constants_of f.generic cs) (facts_in_base facts all) tt;
}

-- what a demand that is met says of the typed program
is_there : (facts : List Facts) (o : Option ℤ) (b : Option Bounds) → is_in facts o b ≡ true → IfSome o IsInBase → HasNumber o
is_there facts None b h is = absurd (false≢true h)
is_there facts (Some x) b h is = is

are_there : (facts : List Facts) (o : Option Bounds) → is_ordered facts o ≡ true → IfSome o AreInBase → AreOrdered o
are_there facts None h is = absurd (false≢true h)
are_there facts (Some b) h is = (is, h)

module _ (p : Program) (facts : List Facts) (has : HaveFacts p.instances facts) (are : Everywhere AreFactsInBase facts) where
  number_there : (inst : ℕ) (e : Static) (b : Option Bounds) → is_in facts (value_in facts inst e) b ≡ true → HasNumber (static_value (values_of p) inst e)
  number_there inst e b h =
      subst HasNumber (sym (value_alike p facts has inst e))
      (is_there facts (value_in facts inst e) b h (value_in_base (instance_values facts) (facts_in_base facts are) inst e))

  pub value_demanded : (inst : ℕ) (o : Owed) → holds facts inst (lies_in o) ≡ true → HasNumber (static_value (values_of p) inst o.value)
  value_demanded inst o h = number_there inst o.value (bounds_in facts inst o.range) h

  pub choice_demanded : (inst : ℕ) (e : Static) (values : Spans) → holds facts inst (chosen_in e values) ≡ true
      → HasNumber (static_value (values_of p) inst e)
  choice_demanded inst e values h = number_there inst e (spans_in facts inst values) h

  pub order_demanded : (inst : ℕ) (low high : Static) → holds facts inst (in_order low high) ≡ true
      → AreOrdered (static_bounds (values_of p) inst (between low high))
  order_demanded inst low high h =
      subst AreOrdered (sym (range_alike p facts has inst (between low high)))
      (are_there facts (bounds_in facts inst (between low high)) h
      (bounds_in_base (instance_values facts) (facts_in_base facts are) inst (between low high)))
