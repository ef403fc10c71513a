-- What names denote: entities and regions (Ada RM 2012, 8.1 to 8.3), the predefined names and those of Test_IO (A.1).
use Rattle.std.specs.Prelude.{ℕ, nat_eq, ℤ, pos, ◌-ℤ◌, Bool, false, List, [], ◌∷◌, codes, map, Option, Some, None, option_map, is_none, slice_get, if◌then◌else◌}
use Rattle.std.specs.Cmp.Lexicographic.{pointwise}
use Rattle.std.specs.Map.{lookup}
use Rattle.std.specs.Option.{option_or}
use Rattle.std.specs.Str.{str_to_ascii_lowercase}
use Rattle.ada_syntax.specs.declared.name.Identifier.{Identifier}
use Rattle.ada_meaning.specs.Program.{Mode, in_mode, out_mode}
use Rattle.ada_meaning.specs.Resolved.{constraint_error, program_error, storage_error, end_error}
use Rattle.ada_meaning.specs.Tree.{Object, library_object, local_object, Parts, Callee, test_get, test_put, subprogram, ExceptionName, predefined, declared}
use Rattle.ada_meaning.specs.Seen.{range_seen}
use Rattle.ada_meaning.specs.Types.{Owner, here, of_instance, Static, static_of}
use Rattle.ada_rules.specs.Types.{Identity, integer, natural, positive, boolean, declared_in, AdaType, integer_type, enumeration, formal_type, array_type, record_type, AdaSubtype, of_type, Fields, no_field, and_field, range_in, numbers, integer_subtype, boolean_type, boolean_subtype}
use Rattle.ada_rules.specs.Statics.{Spans, within, formal_values}

-- identifiers are the same where they differ in case alone (RM 2.3): this is what they are compared by
abbrev pub key : Identifier → List ℕ
key i = str_to_ascii_lowercase i.text

abbrev pub same_name : List ℕ → List ℕ → Bool
same_name a b = pointwise nat_eq a b

-- an object, or a part of one: where it stands, whether it may be assigned, whether an index stands in its name, the
-- static value of a constant, and the values that a case on it names
pub record Variable : Type 0 where
  pub object : Object
  pub parts : Parts
  pub subtype : AdaSubtype
  pub is_writable : Bool
  pub is_indexed : Bool
  pub known : Option Static
  pub values : Spans

-- a parameter of a subprogram, or the result of a function: which subtype its mark names, where it names one (RM 6.1)
pub record Parameter : Type 0 where
  pub name : List ℕ
  pub mode : Mode
  pub mark : Option Identity
  pub subtype : AdaSubtype

-- a subprogram: what calls name, its parameters, and of a function the result and the values that a case on a call
-- names
pub record Routine : Type 0 where
  pub callee : Callee
  pub parameters : List Parameter
  pub result : Option Parameter
  pub values : Spans
  pub awaits_body : Bool

pub data Entity : Type 0 where
  -- a declaration hides its names from its start to its end (RM 8.3)
  hidden : Entity
  mark : Identity → AdaSubtype → Entity
  -- an enumeration literal, by its position number (RM 3.5.1)
  literal : AdaType → ℤ → Entity
  object : Variable → Entity
  -- a formal object, whose value is static (RM 12.4)
  formal_object : AdaSubtype → Static → Entity
  routine : Routine → Entity
  raisable : ExceptionName → Entity
  -- a component, in the rest of its record's declaration
  component : Entity
  test_io : Entity
  -- a package, a generic or an instance, by the number of its unit
  unit : ℕ → Entity

-- a region: its declarations in order, each name once
abbrev pub Region : Type 0
Region = List (List ℕ × Entity)

abbrev pub entity_of : List ℕ → Region → Option Entity
entity_of name region = lookup (same_name name) region

abbrev pub is_new : Region → Identifier → Bool
is_new region i = is_none (entity_of (key i) region)

-- what a name denotes where these regions stand one in the other, the innermost first: an inner declaration hides an
-- outer one (RM 8.3)
abbrev pub found : List ℕ → List Region → Option Entity
found name [] = None
found name (r ∷ rs) = option_or (entity_of name r) (found name rs)

abbrev pub shown : Option Entity → Option Entity
shown (Some hidden) = None
shown x = x

abbrev pub visible : List ℕ → List Region → Option Entity
visible name regions = shown (found name regions)

-- a region where this name denotes something else
abbrev pub redefined : List ℕ → Entity → Region → Region
redefined name x [] = []
redefined name x (e ∷ es) = if same_name name e.0 then (e.0, x) ∷ es else e ∷ redefined name x es

-- a predefined subprogram of Test_IO, with one parameter (RM A.1)
abbrev pub item_parameter : Mode → Parameter
item_parameter m = record { name = codes "item"; mode = m; mark = Some integer; subtype = integer_subtype }

abbrev pub predefined_routine : Callee → Mode → Entity
predefined_routine c m = routine (record {
  callee = c;
  parameters = item_parameter m ∷ [];
  result = None;
  values = within (range_in integer_subtype);
  awaits_body = false;
})

abbrev pub test_io_region : Region
test_io_region =
    (codes "end_error", raisable (predefined end_error)) ∷ (codes "get", predefined_routine test_get out_mode)
    ∷ (codes "put", predefined_routine test_put in_mode) ∷ []

-- the predefined names, outside the library (RM A.1)
abbrev pub predefined_region : Region
predefined_region =
    (codes "integer", mark integer integer_subtype)
    ∷ (codes "natural", mark natural (of_type (integer_type integer) (numbers (pos 0) (pos 2147483647))))
    ∷ (codes "positive", mark positive (of_type (integer_type integer) (numbers (pos 1) (pos 2147483647))))
    ∷ (codes "boolean", mark boolean boolean_subtype)
    ∷ (codes "false", literal boolean_type (pos 0))
    ∷ (codes "true", literal boolean_type (pos 1))
    ∷ (codes "constraint_error", raisable (predefined constraint_error))
    ∷ (codes "program_error", raisable (predefined program_error))
    ∷ (codes "storage_error", raisable (predefined storage_error)) ∷ []

-- The names that are there before any unit: those of Standard, and the declarations of Test_IO. While the language
-- grows these may be fewer.
pub record Standard : Type 0 where
  pub predefined : Region
  pub test_io_declarations : Region

abbrev pub whole_standard : Standard
whole_standard = record { predefined = predefined_region; test_io_declarations = test_io_region }

-- what an instance has for a formal (RM 12.3)
pub data Actual : Type 0 where
  object_actual : Static → Actual
  type_actual : AdaSubtype → Actual
  routine_actual : Routine → Actual

-- The type that is given for a formal type: a scalar one (RM 12.5). An instance stands in no generic's text, so neither does
-- the type; where none is given, this is never asked for.
abbrev pub own_identity : Identity → Identity
own_identity (declared_in here u n) = declared_in (of_instance 0) u n
own_identity i = i

abbrev pub given_type : Option Actual → AdaType
given_type (Some (type_actual (of_type (integer_type i) r))) = integer_type (own_identity i)
given_type (Some (type_actual (of_type (enumeration i n) r))) = enumeration (own_identity i) n
given_type a = integer_type integer

-- Entities of a generic's text as they are seen through an instance with this number and these actuals (RM 12.3): what
-- is declared there belongs to the instance, formal types are the actual ones, and static values are those of the
-- instance. What another instance has stays that instance's.
module _ (inst : ℕ) where
  abbrev pub owner_seen : Owner → Owner
  owner_seen here = of_instance inst
  owner_seen (of_instance i) = of_instance i

  abbrev pub identity_seen : Identity → Identity
  identity_seen (declared_in o u n) = declared_in (owner_seen o) u n
  identity_seen i = i

  abbrev pub static_seen : Static → Static
  static_seen (static_of i e) = static_of i e
  static_seen e = static_of inst e

  abbrev pub object_seen : Object → Object
  object_seen (library_object o d) = library_object (owner_seen o) d
  object_seen (local_object d) = local_object d

  abbrev pub callee_seen : Callee → Callee
  callee_seen (subprogram o n) = subprogram (owner_seen o) n
  callee_seen c = c

  abbrev pub exception_seen : ExceptionName → ExceptionName
  exception_seen (predefined n) = predefined n
  exception_seen (declared o d) = declared (owner_seen o) d

module _ (inst : ℕ) (actuals : List Actual) where
  abbrev mutual
    pub type_seen : AdaType → AdaType
    type_seen (integer_type i) = integer_type (identity_seen inst i)
    type_seen (enumeration i n) = enumeration (identity_seen inst i) n
    type_seen (formal_type i k b) = given_type (slice_get actuals k)
    type_seen (array_type i x c) = array_type (identity_seen inst i) (subtype_seen x) (subtype_seen c)
    type_seen (record_type i fs) = record_type (identity_seen inst i) (fields_seen fs)

    pub subtype_seen : AdaSubtype → AdaSubtype
    subtype_seen (of_type t r) = of_type (type_seen t) (range_seen inst r)

    pub fields_seen : Fields → Fields
    fields_seen no_field = no_field
    fields_seen (and_field name t fs) = and_field name (subtype_seen t) (fields_seen fs)

  abbrev pub variable_seen : Variable → Variable
  variable_seen v = record {
    object = object_seen inst v.object;
    parts = v.parts;
    subtype = subtype_seen v.subtype;
    is_writable = v.is_writable;
    is_indexed = v.is_indexed;
    known = option_map (static_seen inst) v.known;
    values = within (range_seen inst (range_in v.subtype));
  }

  abbrev pub parameter_seen : Parameter → Parameter
  parameter_seen q = record {
    name = q.name;
    mode = q.mode;
    mark = option_map (identity_seen inst) q.mark;
    subtype = subtype_seen q.subtype;
  }

  abbrev pub result_values_seen : Option Parameter → Spans
  result_values_seen None = within (range_in integer_subtype)
  result_values_seen (Some q) = within (range_seen inst (range_in q.subtype))

  abbrev pub routine_seen : Routine → Routine
  routine_seen r = record {
    callee = callee_seen inst r.callee;
    parameters = map parameter_seen r.parameters;
    result = option_map parameter_seen r.result;
    values = result_values_seen r.result;
    awaits_body = false;
  }

  abbrev pub seen : Entity → Entity
  seen hidden = hidden
  seen (mark i t) = mark (identity_seen inst i) (subtype_seen t)
  seen (literal t x) = literal (type_seen t) x
  seen (object v) = object (variable_seen v)
  seen (formal_object t e) = formal_object (subtype_seen t) (static_seen inst e)
  seen (routine r) = routine (routine_seen r)
  seen (raisable e) = raisable (exception_seen inst e)
  seen component = component
  seen test_io = test_io
  seen (unit n) = unit n

-- the values of a type (RM 3.5): of an integer type those of the base range
abbrev pub type_values : AdaType → Spans
type_values (enumeration i n) = within (numbers (pos 0) (pos n -ℤ pos 1))
type_values (formal_type i k false) = formal_values k
type_values t = within (range_in integer_subtype)
