-- What names of the typed program are in an instance: values of static expressions, bounds, shapes of types, places of objects,
-- subprograms, exceptions.
use Rattle.std.specs.Prelude.{ℕ, zero, suc, ◌+◌, nat_eq, ℤ, pos, ◌&&◌, List, [], ◌∷◌, map, Option, Some, None, slice_get, unwrap_or, if◌then◌else◌}
use Rattle.ada_meaning.specs.Types.{Owner, here, of_instance, Static, static_number, static_formal, static_constant, static_first, static_last, static_length, static_sign, static_operation, static_of, Range, between, formal_range, range_of, Subtype, scalar, array, fields, subtype_of, Components, no_component, and_component}
use Rattle.ada_meaning.specs.Tree.{Object, library_object, local_object, Callee, test_get, test_put, subprogram, formal_subprogram, ExceptionName, predefined, declared}
use Rattle.ada_meaning.specs.Program.{Bounds, Mode, in_mode, out_mode, Parameter, Subprogram, Target, get_target, put_target, body_target, FormalActual, actual_object, actual_type, actual_subprogram, Instance, Raisable, Program}
use Rattle.ada_meaning.specs.Arithmetic.{base_range, count_between, sign_of, exact}
use Rattle.ada_meaning.specs.State.{Place}
use Rattle.ada_meaning.specs.Shape.{Shape, word, row, group, Shapes, no_shape, and_shape}

-- the numbers of the predefined exceptions (RM 11.1; End_Error is Test_IO's)
abbrev pub constraint_error : ℕ
constraint_error = 1

abbrev pub program_error : ℕ
program_error = 2

abbrev pub storage_error : ℕ
storage_error = 3

abbrev pub end_error : ℕ
end_error = 4

-- the number of the instance that owns an entity, seen from an instance
abbrev pub owner_in : ℕ → Owner → ℕ
owner_in inst here = inst
owner_in inst (of_instance i) = i

-- what an instance, if there is one, has for the formal with this place
abbrev pub formal_among : Option Instance → ℕ → Option FormalActual
formal_among None k = None
formal_among (Some i) k = slice_get i.actuals k

-- what an instance has for the formal with this place
abbrev pub formal_of : Program → ℕ → ℕ → Option FormalActual
formal_of p zero k = None
formal_of p (suc i) k = formal_among (slice_get p.instances i) k

-- the value of a formal object (0 for what is none)
abbrev pub formal_number : Option FormalActual → ℤ
formal_number (Some (actual_object e x)) = x
formal_number other = pos 0

-- the bounds of a formal type (the base range for what is none)
abbrev pub formal_bounds : Option FormalActual → Bounds
formal_bounds (Some (actual_type r b c)) = b
formal_bounds other = base_range

-- the value of a constant of a generic in an instance, if there is one
abbrev pub constant_among : Option Instance → ℕ → Option ℤ
constant_among None k = None
constant_among (Some i) k = unwrap_or (slice_get i.constants k) None

abbrev pub constant_of : Program → ℕ → ℕ → Option ℤ
constant_of p zero k = None
constant_of p (suc i) k = constant_among (slice_get p.instances i) k

-- what a formal subprogram comes to (Put for what is none)
abbrev pub formal_target : Option FormalActual → Target
formal_target (Some (actual_subprogram t)) = t
formal_target other = put_target

-- how many exceptions stand before the one of an instance and a declaration
abbrev pub rank_of : ℕ → ℕ → List Raisable → ℕ
rank_of inst d [] = zero
rank_of inst d (e ∷ es) = if nat_eq e.instance inst && nat_eq e.declaration d then zero else suc (rank_of inst d es)

-- a parameter in an instance
pub record ResolvedParameter : Type 0 where
  pub declaration : ℕ
  pub mode : Mode
  pub shape : Shape

-- the parameters of a subprogram, if there is one
abbrev pub parameters_of_subprogram : Option Subprogram → List Parameter
parameters_of_subprogram None = []
parameters_of_subprogram (Some s) = s.parameters

-- where a local object stands in an instance, at a depth
abbrev pub local_place : ℕ → ℕ → ℕ → Place
local_place inst depth d = record { frame = depth; instance = inst; declaration = d; path = [] }

module _ (p : Program) where
  abbrev mutual
    -- the value of a static expression in an instance, computed exactly (RM 4.9)
    pub number_in : ℕ → Static → ℤ
    number_in inst (static_number x) = x
    number_in inst (static_formal k) = formal_number (formal_of p inst k)
    number_in inst (static_constant k) = unwrap_or (constant_of p inst k) (pos 0)
    number_in inst (static_first r) = (bounds_in inst r).low
    number_in inst (static_last r) = (bounds_in inst r).high
    number_in inst (static_length r) = pos (count_between (bounds_in inst r).low (bounds_in inst r).high)
    number_in inst (static_sign s e) = sign_of s (number_in inst e)
    number_in inst (static_operation o e f) = exact o (number_in inst e) (number_in inst f)
    number_in inst (static_of i e) = number_in i e

    -- the bounds of a subtype in an instance
    pub bounds_in : ℕ → Range → Bounds
    bounds_in inst (between e f) = record { low = number_in inst e; high = number_in inst f }
    bounds_in inst (formal_range k) = formal_bounds (formal_of p inst k)
    bounds_in inst (range_of i r) = bounds_in i r

  abbrev mutual
    -- the shape of a type in an instance
    pub shape_in : ℕ → Subtype → Shape
    shape_in inst (scalar r) = word (bounds_in inst r)
    shape_in inst (array r t) = row (bounds_in inst r) (shape_in inst t)
    shape_in inst (fields cs) = group (shapes_in inst cs)
    shape_in inst (subtype_of i t) = shape_in i t

    -- the shapes of the components of a record
    pub shapes_in : ℕ → Components → Shapes
    shapes_in inst no_component = no_shape
    shapes_in inst (and_component t cs) = and_shape (shape_in inst t) (shapes_in inst cs)

  -- a parameter as it is in an instance
  abbrev pub parameter_in : ℕ → Parameter → ResolvedParameter
  parameter_in inst q = record { declaration = q.declaration; mode = q.mode; shape = shape_in inst q.subtype }

  -- what a call comes to in an instance
  abbrev pub target_in : ℕ → Callee → Target
  target_in inst test_get = get_target
  target_in inst test_put = put_target
  target_in inst (subprogram o n) = body_target (owner_in inst o) n
  target_in inst (formal_subprogram k) = formal_target (formal_of p inst k)

  -- the number of an exception in an instance
  abbrev pub exception_in : ℕ → ExceptionName → ℕ
  exception_in inst (predefined e) = e
  exception_in inst (declared o d) = 5 + rank_of (owner_in inst o) d p.exceptions

  -- the parameters of what a call comes to. Get has one parameter of mode out, Put one of mode in, both of subtype Integer.
  abbrev pub parameters_of : Target → List ResolvedParameter
  parameters_of get_target = record { declaration = 0; mode = out_mode; shape = word base_range } ∷ []
  parameters_of put_target = record { declaration = 0; mode = in_mode; shape = word base_range } ∷ []
  parameters_of (body_target inst n) = map (parameter_in inst) (parameters_of_subprogram (slice_get p.subprograms n))

  -- where an object stands in an instance, at a depth
  abbrev pub place_in : ℕ → ℕ → Object → Place
  place_in inst depth (library_object o d) = record { frame = 0; instance = owner_in inst o; declaration = d; path = [] }
  place_in inst depth (local_object d) = local_place inst depth d
