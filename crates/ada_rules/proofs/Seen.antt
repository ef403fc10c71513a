-- What is seen through an instance: the typed program has its types with each of their ranges the instance's, values are those
-- that the instance has, and another instance shows it as it is.
use Rattle.std.proofs.Common.{◌≡◌, ℕ, List, Option, Some, None, slice_get, refl, ap}
use Rattle.ada_meaning.specs.Seen.{range_seen, components_seen}
use Rattle.ada_meaning.specs.Seen as meaning
use Rattle.ada_meaning.specs.Statics.{InstanceValues, static_value}
use Rattle.ada_meaning.specs.Types.{Owner, here, of_instance, Static, static_number, static_formal, static_constant, static_first, static_last, static_length, static_sign, static_operation, static_of, Range, between, formal_range, range_of, scalar, array, fields, and_component}
use Rattle.ada_rules.specs.Entities.{Actual, object_actual, type_actual, routine_actual, own_identity, given_type, owner_seen, identity_seen, type_seen, subtype_seen, fields_seen, static_seen}
use Rattle.ada_rules.specs.Types.{Identity, integer, natural, positive, boolean, declared_in, AdaType, integer_type, enumeration, formal_type, array_type, record_type, AdaSubtype, of_type, Fields, no_field, and_field, type_in_tree, subtype_in_tree, fields_in_tree}

given_in_tree : (a : Option Actual) (r : Range) → type_in_tree (given_type a) r ≡ scalar r
given_in_tree None r = refl
given_in_tree (Some (object_actual e)) r = refl
given_in_tree (Some (routine_actual x)) r = refl
given_in_tree (Some (type_actual (of_type (integer_type j) s))) r = refl
given_in_tree (Some (type_actual (of_type (enumeration j n) s))) r = refl
given_in_tree (Some (type_actual (of_type (formal_type j m c) s))) r = refl
given_in_tree (Some (type_actual (of_type (array_type j x c) s))) r = refl
given_in_tree (Some (type_actual (of_type (record_type j fs) s))) r = refl

module _ (inst : ℕ) (actuals : List Actual) where
  mutual
    type_in_instance : (t : AdaType) (r : Range) → type_in_tree (type_seen inst actuals t) (range_seen inst r) ≡ meaning.subtype_seen inst (type_in_tree t r)
    type_in_instance (integer_type i) r = refl
    type_in_instance (enumeration i n) r = refl
    type_in_instance (formal_type i k b) r = given_in_tree (slice_get actuals k) (range_seen inst r)
    type_in_instance (array_type i (of_type t s) c) r = ap (array (range_seen inst s)) (subtype_in_instance c)
    type_in_instance (record_type i fs) r = ap fields (fields_in_instance fs)

    pub subtype_in_instance : (s : AdaSubtype) → subtype_in_tree (subtype_seen inst actuals s) ≡ meaning.subtype_seen inst (subtype_in_tree s)
    subtype_in_instance (of_type t r) = type_in_instance t r

    fields_in_instance : (fs : Fields) → fields_in_tree (fields_seen inst actuals fs) ≡ components_seen inst (fields_in_tree fs)
    fields_in_instance no_field = refl
    fields_in_instance (and_field name s fs) = λ z. and_component (subtype_in_instance s z) (fields_in_instance fs z)

-- wherever a static value is looked at, it is what the instance has
pub seen_value : (v : InstanceValues) (inst looked_in : ℕ) (e : Static) → static_value v looked_in (static_seen inst e) ≡ static_value v inst e
seen_value v inst k (static_number x) = refl
seen_value v inst k (static_formal x) = refl
seen_value v inst k (static_constant x) = refl
seen_value v inst k (static_first r) = refl
seen_value v inst k (static_last r) = refl
seen_value v inst k (static_length r) = refl
seen_value v inst k (static_sign s e) = refl
seen_value v inst k (static_operation o e f) = refl
seen_value v inst k (static_of i e) = refl

-- the type that is given for a formal one is that of the actual, which is scalar and stands in no generic's text
abbrev IsGiven : AdaType → Type 0
IsGiven (integer_type (declared_in here u n)) = ⊥
IsGiven (integer_type i) = Unit {0}
IsGiven (enumeration (declared_in here u n) m) = ⊥
IsGiven (enumeration i m) = Unit {0}
IsGiven t = ⊥

pub given_as_it_is : (t : AdaType) (r : Range) → IsGiven t → given_type (Some (type_actual (of_type t r))) ≡ t
given_as_it_is (integer_type integer) r h = refl
given_as_it_is (integer_type natural) r h = refl
given_as_it_is (integer_type positive) r h = refl
given_as_it_is (integer_type boolean) r h = refl
given_as_it_is (integer_type (declared_in here u n)) r h = absurd h
given_as_it_is (integer_type (declared_in (of_instance i) u n)) r h = refl
given_as_it_is (enumeration integer m) r h = refl
given_as_it_is (enumeration natural m) r h = refl
given_as_it_is (enumeration positive m) r h = refl
given_as_it_is (enumeration boolean m) r h = refl
given_as_it_is (enumeration (declared_in here u n) m) r h = absurd h
given_as_it_is (enumeration (declared_in (of_instance i) u n) m) r h = refl
given_as_it_is (formal_type i k b) r h = absurd h
given_as_it_is (array_type i x c) r h = absurd h
given_as_it_is (record_type i fs) r h = absurd h

-- what is seen through an instance, seen through another one
module _ (inst other : ℕ) where
  pub owner_twice : (o : Owner) → owner_seen other (owner_seen inst o) ≡ owner_seen inst o
  owner_twice here = refl
  owner_twice (of_instance i) = refl

  pub identity_twice : (i : Identity) → identity_seen other (identity_seen inst i) ≡ identity_seen inst i
  identity_twice integer = refl
  identity_twice natural = refl
  identity_twice positive = refl
  identity_twice boolean = refl
  identity_twice (declared_in here u n) = refl
  identity_twice (declared_in (of_instance i) u n) = refl

  pub range_twice : (r : Range) → range_seen other (range_seen inst r) ≡ range_seen inst r
  range_twice (between a b) = refl
  range_twice (formal_range k) = refl
  range_twice (range_of i r) = refl

  pub static_twice : (e : Static) → static_seen other (static_seen inst e) ≡ static_seen inst e
  static_twice (static_number x) = refl
  static_twice (static_formal x) = refl
  static_twice (static_constant x) = refl
  static_twice (static_first r) = refl
  static_twice (static_last r) = refl
  static_twice (static_length r) = refl
  static_twice (static_sign s e) = refl
  static_twice (static_operation o e f) = refl
  static_twice (static_of i e) = refl

own_identity_seen : (other : ℕ) → (i : Identity) → identity_seen other (own_identity i) ≡ own_identity i
own_identity_seen other integer = refl
own_identity_seen other natural = refl
own_identity_seen other positive = refl
own_identity_seen other boolean = refl
own_identity_seen other (declared_in here u n) = refl
own_identity_seen other (declared_in (of_instance i) u n) = refl

module _ (inst : ℕ) (actuals : List Actual) (other : ℕ) (others : List Actual) where
  given_seen : (a : Option Actual) → type_seen other others (given_type a) ≡ given_type a
  given_seen None = refl
  given_seen (Some (object_actual e)) = refl
  given_seen (Some (routine_actual x)) = refl
  given_seen (Some (type_actual (of_type (integer_type j) s))) = ap integer_type (own_identity_seen other j)
  given_seen (Some (type_actual (of_type (enumeration j n) s))) = ap (λ i. enumeration i n) (own_identity_seen other j)
  given_seen (Some (type_actual (of_type (formal_type j m c) s))) = refl
  given_seen (Some (type_actual (of_type (array_type j x c) s))) = refl
  given_seen (Some (type_actual (of_type (record_type j fs) s))) = refl

  mutual
    pub type_twice : (t : AdaType) → type_seen other others (type_seen inst actuals t) ≡ type_seen inst actuals t
    type_twice (integer_type i) = ap integer_type (identity_twice inst other i)
    type_twice (enumeration i n) = ap (λ j. enumeration j n) (identity_twice inst other i)
    type_twice (formal_type i k b) = given_seen (slice_get actuals k)
    type_twice (array_type i x c) = λ z. array_type (identity_twice inst other i z) (subtype_twice x z) (subtype_twice c z)
    type_twice (record_type i fs) = λ z. record_type (identity_twice inst other i z) (fields_twice fs z)

    pub subtype_twice : (s : AdaSubtype) → subtype_seen other others (subtype_seen inst actuals s) ≡ subtype_seen inst actuals s
    subtype_twice (of_type t r) = λ z. of_type (type_twice t z) (range_twice inst other r z)

    pub fields_twice : (fs : Fields) → fields_seen other others (fields_seen inst actuals fs) ≡ fields_seen inst actuals fs
    fields_twice no_field = refl
    fields_twice (and_field name s fs) = λ z. and_field name (subtype_twice s z) (fields_twice fs z)
