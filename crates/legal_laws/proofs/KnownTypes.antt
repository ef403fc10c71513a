-- Types that are known: alike where their identities are equal, with the bounds and shapes that the typed program wants.
use Rattle.std.proofs.Common.{◌≡◌, ℕ, suc, ◌+◌, Bool, true, false, if◌then◌else◌, Option, Some, None, option_map, IfSome, refl, sym, ◌∙◌, subst, arith, ◌⊎◌, inl, inr}
use Rattle.std.specs.Prelude.{◌&&◌, ◌||◌, List, int_le}
use Rattle.std.proofs.lemmas.Bool.{false≢true}
use Rattle.ada_meaning.specs.Program.{Bounds, Program}
use Rattle.ada_meaning.specs.Resolved.{bounds_in, shape_in, shapes_in}
use Rattle.ada_meaning.specs.Shape.{Shape, word, row, group, Shapes, and_shape}
use Rattle.ada_meaning.specs.Statics.{static_bounds, values_of}
use Rattle.ada_meaning.specs.Types.{Range}
use Rattle.ada_meaning.specs.WellFormed.{AreInBase, HasNumber, HasBounds, IsType, AreTypes, IsScalar, component_shape, HasComponent}
use Rattle.ada_meaning.proofs.StaticValues.{bounds_exact}
use Rattle.ada_rules.specs.Types.{AdaType, integer_type, enumeration, formal_type, array_type, record_type, AdaSubtype, of_type, Fields, no_field, and_field, same_type, type_in, range_in, boolean_type, is_integer, is_scalar, Kind, universal, kind_of, is_integral, is_discrete, is_boolean, fits, common, subtype_in_tree, type_in_tree, fields_in_tree}
use Rattle.ada_rules.specs.Entities.{same_name}
use Rattle.ada_rules.specs.Denoted.{field_among, converts}
use Rattle.legal_laws.specs.Valued.{AreOrdered}
use Rattle.legal_laws.specs.Known.{AreAlikeTypes, AreApart, HasField, IsOrdered, IsKnownType, IsKnownSubtype, AreKnownFields, IsKnownKind}
use Rattle.legal_laws.proofs.Passing.{both_true, either_true, if_test}

-- bounds
pub order_bounds : (o : Option Bounds) → AreOrdered o → HasBounds o
order_bounds None h = absurd h
order_bounds (Some b) h = h.0

pub low_there : (o : Option Bounds) → AreOrdered o → HasNumber (option_map (λ b. b.low) o)
low_there None h = absurd h
low_there (Some b) h = h.0.0

pub high_there : (o : Option Bounds) → AreOrdered o → HasNumber (option_map (λ b. b.high) o)
high_there None h = absurd h
high_there (Some b) h = h.0.1

-- as the program has them
abbrev AreOrderedBounds : Bounds → Type 0
AreOrderedBounds b = AreInBase b × (int_le b.low b.high ≡ true)

exact_order : (o : Option Bounds) (b : Bounds) → AreOrdered o → IfSome o (λ c. b ≡ c) → AreOrderedBounds b
exact_order None b h is = absurd h
exact_order (Some c) b h is = subst AreOrderedBounds (sym is) h

pub integral_discrete : (k : Kind) → is_integral k ≡ true → is_discrete k ≡ true
integral_discrete universal h = refl
integral_discrete (kind_of (integer_type i)) h = refl
integral_discrete (kind_of (enumeration i n)) h = absurd (false≢true h)
integral_discrete (kind_of (formal_type i k b)) h = refl
integral_discrete (kind_of (array_type i x c)) h = absurd (false≢true h)
integral_discrete (kind_of (record_type i fs)) h = absurd (false≢true h)

module _ (p : Program) (inst : ℕ) (declared : AdaType → Type 0) (apart : AreApart p declared) where
  abbrev Known : AdaType → Type 0
  Known t = IsKnownType p inst declared t

  abbrev KnownSubtype : AdaSubtype → Type 0
  KnownSubtype t = IsKnownSubtype p inst declared t

  abbrev KnownKind : Kind → Type 0
  KnownKind k = IsKnownKind p inst declared k

  pub range_known : (t : AdaSubtype) → KnownSubtype t → IsOrdered p inst declared (range_in t)
  range_known (of_type t r) h = h.0

  pub type_known : (t : AdaSubtype) → KnownSubtype t → Known (type_in t)
  type_known (of_type t r) h = h.1

  in_types : (t : AdaType) → Known t → declared t
  in_types (integer_type i) h = h
  in_types (enumeration i n) h = h
  in_types (formal_type i k b) h = h
  in_types (array_type i x c) h = h.0
  in_types (record_type i fs) h = h.0

  pub types_alike : (t u : AdaType) → Known t → Known u → same_type t u ≡ true → AreAlikeTypes p t u
  types_alike t u h k same = apart t u (in_types t h) (in_types u k) same

  -- what fits
  pub scalar_fits : (t : AdaType) (k : Kind) → Known t → KnownKind k → is_scalar t ≡ true → fits t k ≡ true → is_discrete k ≡ true
  scalar_fits t universal h known scalar fit = refl
  scalar_fits t (kind_of u) h known scalar fit = sym (types_alike t u h known fit).scalar ∙ scalar

  pub boolean_scalar : declared boolean_type → (k : Kind) → KnownKind k → is_boolean k ≡ true → is_discrete k ≡ true
  boolean_scalar booleans universal known is = absurd (false≢true is)
  boolean_scalar booleans (kind_of t) known is = (types_alike t boolean_type known booleans is).scalar

  by_either : (t : AdaType) (k : Kind) → Known t → KnownKind k → is_scalar t ≡ true → ((is_integer t && is_integral k) ≡ true) ⊎ (fits t k ≡ true)
      → is_discrete k ≡ true
  by_either t k h known scalar (inl both) = integral_discrete k (both_true (is_integer t) (is_integral k) both).1
  by_either t k h known scalar (inr fit) = scalar_fits t k h known scalar fit

  pub converted_discrete : (t : AdaType) (k : Kind) → Known t → KnownKind k → converts t k ≡ true → is_discrete k ≡ true
  converted_discrete t k h known may =
      let both = both_true (is_scalar t) (is_integer t && is_integral k || fits t k) may in
      by_either t k h known both.0 (either_true (is_integer t && is_integral k) (fits t k) both.1)

  -- what two operands fit together; where that is discrete, so is what each fits
  pub record IsCommon (a b k : Kind) : Type 0 where
    pub known : KnownKind k
    pub left : is_discrete k ≡ true → is_discrete a ≡ true
    pub right : is_discrete k ≡ true → is_discrete b ≡ true
    pub both : is_discrete a ≡ true → is_discrete b ≡ true → is_discrete k ≡ true

  pub common_known : (a b : Kind) → KnownKind a → KnownKind b → IfSome (common a b) (IsCommon a b)
  common_known universal universal h g = record { known = tt; left = λ d. refl; right = λ d. refl; both = λ d f. refl }
  common_known universal (kind_of t) h g =
      if_test (IsCommon universal (kind_of t)) (is_integer t) (Some (kind_of t)) (λ i. record { known = g; left = λ d. refl; right = λ d. d; both = λ d f. f })
  common_known (kind_of t) universal h g =
      if_test (IsCommon (kind_of t) universal) (is_integer t) (Some (kind_of t)) (λ i. record { known = h; left = λ d. d; right = λ d. refl; both = λ d f. d })
  common_known (kind_of t) (kind_of u) h g =
      if_test (IsCommon (kind_of t) (kind_of u)) (same_type t u) (Some (kind_of t))
      (λ same. record { known = h; left = λ d. d; right = λ d. sym (types_alike t u h g same).scalar ∙ d; both = λ d f. d })

  -- shapes of types
  pub scalar_shape : (t : AdaSubtype) → is_scalar (type_in t) ≡ true → IsScalar (shape_in p inst (subtype_in_tree t))
  scalar_shape (of_type (integer_type i) r) h = tt
  scalar_shape (of_type (enumeration i n) r) h = tt
  scalar_shape (of_type (formal_type i k b) r) h = tt
  scalar_shape (of_type (array_type i x c) r) h = absurd (false≢true h)
  scalar_shape (of_type (record_type i fs) r) h = absurd (false≢true h)

  pub same_composite : (t u : AdaSubtype) → is_scalar (type_in t) ≡ false → AreAlikeTypes p (type_in t) (type_in u)
      → shape_in p inst (subtype_in_tree t) ≡ shape_in p inst (subtype_in_tree u)
  same_composite (of_type t r) (of_type u s) h alike = alike.shape h inst r s

  -- components by their names
  pub record IsFieldAt (ss : Shapes) (n : ℕ) (f : ℕ × AdaSubtype) : Type 0 where
    pub place : ℕ
    pub stands : f.0 ≡ n + place
    pub there : HasComponent ss place
    pub shape : component_shape ss place ≡ shape_in p inst (subtype_in_tree f.1)
    pub subtype : KnownSubtype f.1

  further : (s : Shape) (ss : Shapes) (n : ℕ) (f : ℕ × AdaSubtype) → IsFieldAt ss (n + 1) f → IsFieldAt (and_shape s ss) n f
  further s ss n f h = record {
    place = suc h.place;
    stands = let at = h.stands in omega (arith, at);
    there = h.there;
    shape = h.shape;
    subtype = h.subtype;
  }

  first_field : (name other : List ℕ) (n : ℕ) (t : AdaSubtype) (ss : Shapes) (b : Bool) (rest : Option (ℕ × AdaSubtype)) → KnownSubtype t
      → IfSome rest (IsFieldAt ss (n + 1))
      → IfSome (if b then Some (n, t) else rest) (IsFieldAt (and_shape (shape_in p inst (subtype_in_tree t)) ss) n)
  first_field name other n t ss true rest h g =
      record { place = 0; stands = omega (arith); there = tt; shape = refl; subtype = h }
  first_field name other n t ss false None h g = tt
  first_field name other n t ss false (Some f) h g = further (shape_in p inst (subtype_in_tree t)) ss n f g

  pub field_known : (name : List ℕ) (n : ℕ) (fs : Fields) → AreKnownFields p inst declared fs
      → IfSome (field_among name n fs) (IsFieldAt (shapes_in p inst (fields_in_tree fs)) n)
  field_known name n no_field h = tt
  field_known name n (and_field other t fs) h =
      first_field name other n t (shapes_in p inst (fields_in_tree fs)) (same_name name other) (field_among name (n + 1) fs) h.0
      (field_known name (n + 1) fs h.1)

  -- a known type is one of the program
  word_type : (r : Range) → IsOrdered p inst declared r → IsType (word (bounds_in p inst r))
  word_type r h = (exact_order (static_bounds (values_of p) inst r) (bounds_in p inst r) h (bounds_exact p inst r)).0

  ordered_there : (r : Range) → IsOrdered p inst declared r → AreOrderedBounds (bounds_in p inst r)
  ordered_there r h = exact_order (static_bounds (values_of p) inst r) (bounds_in p inst r) h (bounds_exact p inst r)

  row_type : (b : Bounds) (s : Shape) → AreOrderedBounds b → IsType s → IsType (row b s)
  row_type b s h k = (h.0, (h.1, k))

  mutual
    pub subtype_is_type : (t : AdaSubtype) → KnownSubtype t → IsType (shape_in p inst (subtype_in_tree t))
    subtype_is_type (of_type t r) h = type_is_type t r h.0 h.1

    type_is_type : (t : AdaType) (r : Range) → IsOrdered p inst declared r → Known t → IsType (shape_in p inst (type_in_tree t r))
    type_is_type (integer_type i) r h k = word_type r h
    type_is_type (enumeration i n) r h k = word_type r h
    type_is_type (formal_type i n b) r h k = word_type r h
    type_is_type (array_type i x c) r h k =
        row_type (bounds_in p inst (range_in x)) (shape_in p inst (subtype_in_tree c)) (ordered_there (range_in x) (range_known x k.1.0))
        (subtype_is_type c k.1.1.1.1)
    type_is_type (record_type i fs) r h k = fields_are_type fs k.1.0 k.1.1

    fields_are_type : (fs : Fields) → HasField fs → AreKnownFields p inst declared fs → IsType (group (shapes_in p inst (fields_in_tree fs)))
    fields_are_type no_field some k = absurd some
    fields_are_type (and_field name t fs) some k = (subtype_is_type t k.0, fields_are_types fs k.1)

    fields_are_types : (fs : Fields) → AreKnownFields p inst declared fs → AreTypes (shapes_in p inst (fields_in_tree fs))
    fields_are_types no_field k = tt
    fields_are_types (and_field name t fs) k = (subtype_is_type t k.0, fields_are_types fs k.1)
