-- How far what a text declares looks, statically: in the text of a generic at its formals and at constants that were named
-- before, and through an instance at the constants that it had when it was made; in no generic at neither.
use Rattle.std.specs.Prelude.{◌≡◌, ◌≤◌, ◌<◌, ℕ, zero, suc, Bool, true, false, List, [], ◌∷◌, length, Option, Some, None, IfSome, slice_get, is_some}
use Rattle.cov_base.specs.Lists.{Everywhere}
use Rattle.ada_meaning.specs.Program.{GenericConstant}
use Rattle.ada_meaning.specs.Statics.{constants_of}
use Rattle.ada_meaning.specs.Types.{Static, static_number, static_formal, static_constant, static_first, static_last, static_length, static_sign, static_operation, static_of, Range, between, formal_range, range_of}
use Rattle.ada_rules.specs.Denoted.{Judged, Denoted, a_mark, a_value, a_variable, a_routine, a_call, an_exception, a_unit, the_test_io, a_thing}
use Rattle.ada_rules.specs.Entities.{Variable, Routine, Entity, hidden, mark, literal, object, formal_object, routine, raisable, component, test_io, unit, Region}
use Rattle.ada_rules.specs.Environment.{typing, Interface, no_interface, package_interface, generic_interface, instance_interface, subprogram_interface, World, State, Env, regions_of, interface_of}
use Rattle.ada_rules.specs.Expressions.{part_of_interface}
use Rattle.ada_rules.specs.Statics.{Facts}
use Rattle.ada_rules.specs.Types.{AdaType, integer_type, enumeration, formal_type, array_type, record_type, AdaSubtype, of_type, Fields, no_field, and_field, Kind, universal, kind_of}

-- so many constants an instance has among these facts
abbrev pub count_in : Option Facts → ℕ
count_in None = 0
count_in (Some f) = length f.constants

abbrev pub had_by : List Facts → ℕ → ℕ
had_by facts zero = 0
had_by facts (suc i) = count_in (slice_get facts i)

-- which instances were made so far, and how many constants each has
pub record Made : Type 0 where
  pub is_made : ℕ → Bool
  pub count : ℕ → ℕ

-- and so many a generic has among these constants
abbrev pub own_of : Option ℕ → List GenericConstant → ℕ
own_of None cs = 0
own_of (Some g) cs = length (constants_of g cs)

module _ (had : Made) where
  abbrev mutual
    -- in a generic or not, with so many constants of its own
    pub IsWithin : (inside : Bool) → (own : ℕ) → Static → Type 0
    IsWithin inside own (static_number x) = Unit {0}
    IsWithin inside own (static_formal k) = inside ≡ true
    IsWithin inside own (static_constant k) = k < own
    IsWithin inside own (static_first r) = IsRangeWithin inside own r
    IsWithin inside own (static_last r) = IsRangeWithin inside own r
    IsWithin inside own (static_length r) = IsRangeWithin inside own r
    IsWithin inside own (static_sign s e) = IsWithin inside own e
    IsWithin inside own (static_operation o e f) = IsWithin inside own e × IsWithin inside own f
    IsWithin inside own (static_of i e) = (had.is_made i ≡ true) × IsWithin true (had.count i) e

    pub IsRangeWithin : (inside : Bool) → (own : ℕ) → Range → Type 0
    IsRangeWithin inside own (between e f) = IsWithin inside own e × IsWithin inside own f
    IsRangeWithin inside own (formal_range k) = inside ≡ true
    IsRangeWithin inside own (range_of i r) = (had.is_made i ≡ true) × IsRangeWithin true (had.count i) r

  -- constants of generics, the latest first
  abbrev pub AreConstantsWithin : List GenericConstant → Type 0
  AreConstantsWithin [] = Unit {0}
  AreConstantsWithin (c ∷ cs) =
      (IsWithin true (own_of (Some c.generic) cs) c.value × IsRangeWithin true (own_of (Some c.generic) cs) c.range) × AreConstantsWithin cs

  module _ (inside : Bool) (own : ℕ) where
    abbrev mutual
      pub IsTypeWithin : AdaType → Type 0
      IsTypeWithin (integer_type i) = Unit {0}
      IsTypeWithin (enumeration i n) = Unit {0}
      IsTypeWithin (formal_type i k b) = inside ≡ true
      IsTypeWithin (array_type i x c) = IsSubtypeWithin x × IsSubtypeWithin c
      IsTypeWithin (record_type i fs) = AreFieldsWithin fs

      pub IsSubtypeWithin : AdaSubtype → Type 0
      IsSubtypeWithin (of_type t r) = IsRangeWithin inside own r × IsTypeWithin t

      pub AreFieldsWithin : Fields → Type 0
      AreFieldsWithin no_field = Unit {0}
      AreFieldsWithin (and_field name t fs) = IsSubtypeWithin t × AreFieldsWithin fs

    abbrev pub IsKindWithin : Kind → Type 0
    IsKindWithin universal = Unit {0}
    IsKindWithin (kind_of t) = IsTypeWithin t

    pub record IsVariableWithin (v : Variable) : Type 0 where
      pub subtype : IsSubtypeWithin v.subtype
      pub known : IfSome v.known (IsWithin inside own)

    pub record IsRoutineWithin (r : Routine) : Type 0 where
      pub parameters : Everywhere (λ q. IsSubtypeWithin q.subtype) r.parameters
      pub result : IfSome r.result (λ q. IsSubtypeWithin q.subtype)

    abbrev pub IsEntityWithin : Entity → Type 0
    IsEntityWithin hidden = Unit {0}
    IsEntityWithin (mark i t) = IsSubtypeWithin t
    IsEntityWithin (literal t x) = IsTypeWithin t
    IsEntityWithin (object v) = IsVariableWithin v
    IsEntityWithin (formal_object t e) = IsSubtypeWithin t × IsWithin inside own e
    IsEntityWithin (routine r) = IsRoutineWithin r
    IsEntityWithin (raisable e) = Unit {0}
    IsEntityWithin component = Unit {0}
    IsEntityWithin test_io = Unit {0}
    IsEntityWithin (unit n) = Unit {0}

    abbrev pub IsRegionWithin : Region → Type 0
    IsRegionWithin region = Everywhere (λ e. IsEntityWithin e.1) region

    -- what a name and an expression come to
    pub record IsValueWithin (x : Judged) : Type 0 where
      pub kind : IsKindWithin x.kind
      pub known : IfSome x.known (IsWithin inside own)
      pub variable : IfSome x.variable IsVariableWithin

    abbrev pub IsNameWithin : Denoted → Type 0
    IsNameWithin (a_mark i t) = IsSubtypeWithin t
    IsNameWithin (a_value x) = IsValueWithin x
    IsNameWithin (a_variable v) = IsVariableWithin v
    IsNameWithin (a_routine r) = IsRoutineWithin r
    IsNameWithin (a_call r actuals) = IsRoutineWithin r
    IsNameWithin (an_exception e) = Unit {0}
    IsNameWithin (a_unit n) = Unit {0}
    IsNameWithin the_test_io = Unit {0}
    IsNameWithin a_thing = Unit {0}

    -- where a construct stands, in the step of types
    pub record IsEnvWithin (env : Env) : Type 0 where
      pub step : env.step ≡ typing
      pub regions : Everywhere IsRegionWithin (regions_of env)
      pub own_region : IsRegionWithin env.own
      pub units : (n : ℕ) (name : List ℕ)
          → IfSome (part_of_interface env.world name (interface_of env.world n)) IsEntityWithin
      pub test_io : IsRegionWithin env.world.standard.test_io_declarations

  -- a construct and the state before it, and what it changes
  pub record IsHere (env : Env) (s : State) : Type 0 where
    pub place : IsEnvWithin (is_some env.generic) (own_of env.generic s.constants_declared) env
    pub constants : AreConstantsWithin s.constants_declared

  pub record Goes (o : Option ℕ) (s t : State) : Type 0 where
    pub constants : AreConstantsWithin t.constants_declared
    pub more : own_of o s.constants_declared ≤ own_of o t.constants_declared

-- what units declare for others, behind these constants: through an instance the declarations of its generic, with the
-- constants that the instance had
pub record HasParts (had : Made) (w : World) (g own : ℕ) : Type 0 where
  pub formals : Region
  pub region : Region
  pub is : interface_of w g ≡ generic_interface formals region
  pub within : IsRegionWithin had true own region

abbrev pub IsInterfaceWithin : Made → World → List GenericConstant → ℕ → Interface → Type 0
IsInterfaceWithin had w cs n no_interface = Unit {0}
IsInterfaceWithin had w cs n (package_interface region) = IsRegionWithin had false 0 region
IsInterfaceWithin had w cs n (generic_interface formals region) =
    IsRegionWithin had true (own_of (Some n) cs) formals × IsRegionWithin had true (own_of (Some n) cs) region
IsInterfaceWithin had w cs n (instance_interface None k actuals) = Unit {0}
IsInterfaceWithin had w cs n (instance_interface (Some g) k actuals) = (had.is_made k ≡ true) × HasParts had w g (had.count k)
IsInterfaceWithin had w cs n (subprogram_interface r) = IsRoutineWithin had false 0 r

pub record IsWorldWithin (had : Made) (w : World) (cs : List GenericConstant) : Type 0 where
  pub interfaces : (n : ℕ) → IsInterfaceWithin had w cs n (interface_of w n)
  pub constants : AreConstantsWithin had cs
  pub predefined : IsRegionWithin had false 0 w.standard.predefined
  pub test_io : IsRegionWithin had false 0 w.standard.test_io_declarations
