-- Static expressions, the ranges of scalar subtypes, and types, as the typed program holds them. A generic stands in the program once:
-- what hangs on its formals is told by instance.
use Rattle.std.specs.Prelude.{ℕ, ℤ}

-- the operators on one integer (RM 4.5.4, 4.5.6)
pub data Sign : Type 0 where
  unary_plus : Sign
  unary_minus : Sign
  absolute_value : Sign

-- the operators on two integers (RM 4.5.3, 4.5.5)
pub data Operator : Type 0 where
  addition : Operator
  subtraction : Operator
  multiplication : Operator
  division : Operator
  modulus : Operator
  remainder : Operator

-- the relations of two values of a discrete type (RM 4.5.2)
pub data Relation : Type 0 where
  equal : Relation
  unequal : Relation
  less : Relation
  at_most : Relation
  greater : Relation
  at_least : Relation

-- whose entity a name denotes: that of the instance whose text it stands in, or that of the instance with this number (0 is all that is in
-- no generic)
pub data Owner : Type 0 where
  here : Owner
  of_instance : ℕ → Owner

mutual
  -- a static expression (RM 4.9). A constant in no generic with a static value stands as its value.
  pub data Static : Type 0 where
    -- a numeral, or the position number of an enumeration literal
    static_number : ℤ → Static
    -- the formal object with this place among the formals of the generic (RM 12.4)
    static_formal : ℕ → Static
    -- the constant with this place among the constants of the generic (RM 3.3.1)
    static_constant : ℕ → Static
    -- First and Last of a scalar subtype, or of the index of an array (RM 3.5, 3.6.2)
    static_first : Range → Static
    static_last : Range → Static
    -- Length of an array with this index (RM 3.6.2)
    static_length : Range → Static
    -- operators
    static_sign : Sign → Static → Static
    static_operation : Operator → Static → Static → Static
    -- an expression of the text of an instance, seen from outside it
    static_of : ℕ → Static → Static

  -- the values of a scalar subtype (RM 3.5): position numbers for Boolean and enumerations
  pub data Range : Type 0 where
    between : Static → Static → Range
    -- those of the formal type with this place among the formals of the generic (RM 12.5)
    formal_range : ℕ → Range
    -- a subtype of the text of an instance, seen from outside it
    range_of : ℕ → Range → Range

mutual
  -- a type or subtype (RM 3.2)
  pub data Subtype : Type 0 where
    scalar : Range → Subtype
    -- an array: its index, and the type of its components (RM 3.6)
    array : Range → Subtype → Subtype
    -- a record: the types of its components, in order (RM 3.8)
    fields : Components → Subtype
    -- a type of the text of an instance, seen from outside it
    subtype_of : ℕ → Subtype → Subtype

  -- the types of a record's components, in order
  pub data Components : Type 0 where
    no_component : Components
    and_component : Subtype → Components → Components
