-- Types and subtypes (Ada RM 2012, 3.2, 3.5, 3.6, 3.8, 12.5), and what expressions fit.
use Rattle.std.specs.Prelude.{ℕ, nat_eq, ℤ, pos, negsuc, Bool, true, false, ◌&&◌, List, Option, Some, None, if◌then◌else◌}
use Rattle.ada_meaning.specs.Types.{Owner, here, of_instance, Static, static_number, Range, between, formal_range, range_of, Subtype, Components, no_component, and_component}
use Rattle.ada_meaning.specs.Types as meaning

-- which type or subtype a declaration declares: a predefined one, or the one with this number among those of a unit
pub data Identity : Type 0 where
  integer : Identity
  natural : Identity
  positive : Identity
  boolean : Identity
  declared_in : Owner → (unit : ℕ) → ℕ → Identity

abbrev pub same_owner : Owner → Owner → Bool
same_owner here here = true
same_owner (of_instance i) (of_instance j) = nat_eq i j
same_owner a b = false

abbrev pub same_identity : Identity → Identity → Bool
same_identity integer integer = true
same_identity natural natural = true
same_identity positive positive = true
same_identity boolean boolean = true
same_identity (declared_in o u n) (declared_in q v m) = same_owner o q && nat_eq u v && nat_eq n m
same_identity a b = false

mutual
  -- a type (RM 3.2)
  pub data AdaType : Type 0 where
    -- an integer type (RM 3.5.4)
    integer_type : Identity → AdaType
    -- an enumeration with so many literals, Boolean too (RM 3.5.1, 3.5.3)
    enumeration : Identity → ℕ → AdaType
    -- the formal type with this place among the formals of the generic, and whether it is an integer type (RM 12.5)
    formal_type : Identity → ℕ → (is_integer : Bool) → AdaType
    -- an array: the subtypes of its index and of its components (RM 3.6)
    array_type : Identity → AdaSubtype → AdaSubtype → AdaType
    -- a record (RM 3.8)
    record_type : Identity → Fields → AdaType

  -- a subtype: a type, and of a scalar one the range of its values
  pub data AdaSubtype : Type 0 where
    of_type : AdaType → Range → AdaSubtype

  -- the components of a record, in order: names and subtypes
  pub data Fields : Type 0 where
    no_field : Fields
    and_field : List ℕ → AdaSubtype → Fields → Fields

abbrev pub identity_of : AdaType → Identity
identity_of (integer_type i) = i
identity_of (enumeration i n) = i
identity_of (formal_type i k b) = i
identity_of (array_type i x c) = i
identity_of (record_type i fs) = i

-- types are distinct by declaration (RM 3.2.1)
abbrev pub same_type : AdaType → AdaType → Bool
same_type t u = same_identity (identity_of t) (identity_of u)

abbrev pub type_in : AdaSubtype → AdaType
type_in (of_type t r) = t

abbrev pub range_in : AdaSubtype → Range
range_in (of_type t r) = r

-- the range of these two numbers
abbrev pub numbers : ℤ → ℤ → Range
numbers low high = between (static_number low) (static_number high)

-- all integer types have the values of 32 bits in two's complement (RM 3.5.4)
abbrev pub base : Range
base = numbers (negsuc 2147483647) (pos 2147483647)

-- the predefined types and subtypes (RM A.1)
abbrev pub integer_subtype : AdaSubtype
integer_subtype = of_type (integer_type integer) base

abbrev pub boolean_type : AdaType
boolean_type = enumeration boolean 2

abbrev pub boolean_subtype : AdaSubtype
boolean_subtype = of_type boolean_type (numbers (pos 0) (pos 1))

abbrev pub is_integer : AdaType → Bool
is_integer (integer_type i) = true
is_integer (formal_type i k b) = b
is_integer t = false

-- scalar types are discrete here: integer types and enumerations (RM 3.5)
abbrev pub is_scalar : AdaType → Bool
is_scalar (integer_type i) = true
is_scalar (enumeration i n) = true
is_scalar (formal_type i k b) = true
is_scalar t = false

-- what an expression fits: every integer type, or one type (RM 3.5.4, 8.6)
pub data Kind : Type 0 where
  universal : Kind
  kind_of : AdaType → Kind

abbrev pub is_integral : Kind → Bool
is_integral universal = true
is_integral (kind_of t) = is_integer t

abbrev pub is_discrete : Kind → Bool
is_discrete universal = true
is_discrete (kind_of t) = is_scalar t

abbrev pub is_boolean : Kind → Bool
is_boolean universal = false
is_boolean (kind_of t) = same_type t boolean_type

-- whether what fits this may stand where a type is asked for
abbrev pub fits : AdaType → Kind → Bool
fits t universal = is_integer t
fits t (kind_of u) = same_type t u

-- what two operands of one type fit together
abbrev pub common : Kind → Kind → Option Kind
common universal universal = Some universal
common universal (kind_of t) = if is_integer t then Some (kind_of t) else None
common (kind_of t) universal = if is_integer t then Some (kind_of t) else None
common (kind_of t) (kind_of u) = if same_type t u then Some (kind_of t) else None

-- where nothing fixes an integer type it is Integer
abbrev pub settled : Kind → AdaType
settled universal = integer_type integer
settled (kind_of t) = t

abbrev mutual
  -- a subtype as the typed program has it
  pub subtype_in_tree : AdaSubtype → Subtype
  subtype_in_tree (of_type t r) = type_in_tree t r

  pub type_in_tree : AdaType → Range → Subtype
  type_in_tree (integer_type i) r = meaning.scalar r
  type_in_tree (enumeration i n) r = meaning.scalar r
  type_in_tree (formal_type i k b) r = meaning.scalar r
  type_in_tree (array_type i x c) r = meaning.array (range_in x) (subtype_in_tree c)
  type_in_tree (record_type i fs) r = meaning.fields (fields_in_tree fs)

  pub fields_in_tree : Fields → Components
  fields_in_tree no_field = no_component
  fields_in_tree (and_field name t fs) = and_component (subtype_in_tree t) (fields_in_tree fs)
