-- What the values of the checker's tables are of the rules' definitions.
use Rattle.std.specs.Prelude.{ℕ, nat_lt, pos, Bool, true, false, ◌&&◌, List, [], Option, Some, None, is_some, slice_get, unwrap_or}
use Rattle.ada_rules.specs.ada_meaning.specs.Types.{Owner, here, of_instance, static_number, Range, range_of}
use Rattle.ada_tree.specs.View.{owner_of, scalar_range_of}
use Rattle.ada_rules.specs.Types as rules
use Rattle.ada_rules.specs.Types.{AdaType, AdaSubtype, of_type, Fields, no_field, base}
use Rattle.ada_rules.specs.Entities.{Actual, object_actual, type_actual, identity_seen, type_seen, subtype_seen}
use Rattle.ada_entities.specs.declared.types.TypeName.{TypeName}
use Rattle.ada_entities.specs.declared.types.Identity.{Identity}
use Rattle.ada_entities.specs.declared.types.Identity.TheVariants as identity
use Rattle.ada_entities.specs.declared.types.FormalKind.{FormalKind}
use Rattle.ada_entities.specs.declared.types.FormalKind.TheVariants as formal
use Rattle.ada_entities.specs.declared.types.ScalarType.{ScalarType}
use Rattle.ada_entities.specs.declared.types.ScalarType.TheVariants as scalar
use Rattle.ada_entities.specs.declared.types.Composite.{Composite}
use Rattle.ada_entities.specs.declared.types.AdaType.{AdaType as CodeType}
use Rattle.ada_entities.specs.declared.types.AdaType.TheVariants as code
use Rattle.ada_entities.specs.declared.types.Subtype.{Subtype}

-- a composite type without its identity
pub data Shape : Type 0 where
  array_shape : (index component : AdaSubtype) → Shape
  record_shape : Fields → Shape

abbrev pub shaped : rules.Identity → Shape → AdaType
shaped i (array_shape x c) = rules.array_type i x c
shaped i (record_shape fs) = rules.record_type i fs

-- What numbers lead to: those of composite types, and those of instances, of which this is what they have for formals
-- once they were made. Instances are numbered from 1, in the order of the text; 0 has nothing.
pub record TypeTables : Type 0 where
  pub shapes : List Shape
  pub instances : List (Option (List Actual))

-- what an instance was made with, where it was made
abbrev pub made_at : {A : Type 0} → List (Option A) → ℕ → Option A
made_at xs i = unwrap_or (slice_get xs i) None

abbrev pub is_made : {A : Type 0} → List (Option A) → ℕ → Bool
is_made xs i = is_some (made_at xs i)

abbrev pub actuals_of : TypeTables → ℕ → List Actual
actuals_of k i = unwrap_or (made_at k.instances i) []

abbrev pub shape_at : TypeTables → ℕ → Shape
shape_at k n = unwrap_or (slice_get k.shapes n) (record_shape no_field)

abbrev pub declared_by : TypeName → rules.Identity
declared_by t = rules.declared_in (owner_of t.owner) t.unit t.number

abbrev pub identity_of : Identity → rules.Identity
identity_of identity.Integer = rules.integer
identity_of identity.Natural = rules.natural
identity_of identity.Positive = rules.positive
identity_of identity.Boolean = rules.boolean
identity_of (identity.Declared t) = declared_by t

abbrev pub is_integral : FormalKind → Bool
is_integral formal.Discrete = false
is_integral formal.Integer = true

abbrev pub scalar_type_of : ScalarType → AdaType
scalar_type_of (scalar.Integer i) = rules.integer_type (identity_of i)
scalar_type_of (scalar.Enumeration i n) = rules.enumeration (identity_of i) n
scalar_type_of (scalar.Formal i place kind) = rules.formal_type (identity_of i) place (is_integral kind)

-- as it is seen: in its own text, or through an instance
abbrev pub range_with : Owner → Range → Range
range_with here r = r
range_with (of_instance n) r = range_of n r

abbrev pub identity_by : Owner → rules.Identity → rules.Identity
identity_by here i = i
identity_by (of_instance n) i = identity_seen n i

abbrev pub type_by : TypeTables → Owner → AdaType → AdaType
type_by k here t = t
type_by k (of_instance n) t = type_seen n (actuals_of k n) t

abbrev pub subtype_by : TypeTables → Owner → AdaSubtype → AdaSubtype
subtype_by k here t = t
subtype_by k (of_instance n) t = subtype_seen n (actuals_of k n) t

abbrev pub composite_of : TypeTables → Composite → AdaType
composite_of k c = type_by k (owner_of c.seen) (shaped (identity_of c.identity) (shape_at k c.number))

abbrev pub type_of : TypeTables → CodeType → AdaType
type_of k (code.Scalar t) = scalar_type_of t
type_of k (code.Composite c) = composite_of k c

abbrev pub subtype_of : TypeTables → Subtype → AdaSubtype
subtype_of k t = of_type (type_of k t.of) (scalar_range_of t.range)

-- what an instance has for a formal: for a type its type, and for others nothing that a type depends on
abbrev pub given_of : Option ScalarType → Actual
given_of None = object_actual (static_number (pos 0))
given_of (Some t) = type_actual (of_type (scalar_type_of t) base)

-- whether a type leads only to composite types that are there, where there are so many, and to instances that were made
abbrev pub is_known_owner : (made : ℕ → Bool) → Owner → Bool
is_known_owner made here = true
is_known_owner made (of_instance i) = made i

abbrev pub is_known : (types : ℕ) (made : ℕ → Bool) → CodeType → Bool
is_known n made (code.Scalar t) = true
is_known n made (code.Composite c) = nat_lt c.number n && is_known_owner made (owner_of c.seen)
