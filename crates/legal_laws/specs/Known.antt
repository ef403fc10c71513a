-- What is known, in an instance, of all that legal text names: types are declared, and have bounds; objects that are
-- named are visible, with the parts that are named; what is called is there, with the parameters that the text gives it.
use Rattle.std.specs.Prelude.{◌≡◌, ℕ, true, false, List, [], ◌∷◌, Option, None, Some, IfSome}
use Rattle.cov_base.specs.Lists.{Everywhere, Somewhere}
use Rattle.ada_meaning.specs.Program.{Target, get_target, put_target, body_target, Program}
use Rattle.ada_meaning.specs.Resolved.{ResolvedParameter, shape_in, target_in, parameters_of}
use Rattle.ada_meaning.specs.Shape.{Shape}
use Rattle.ada_meaning.specs.Statics.{static_value, static_bounds, values_of}
use Rattle.ada_meaning.specs.Tree as tree
use Rattle.ada_meaning.specs.Types.{Range, static_length}
use Rattle.ada_meaning.specs.WellFormed.{IsInBase, HasNumber, IsScalar, IsComposite, part_shape, IsCallable, IsNumber, IsException, IsExpr, IsTest, AreParts, AreActuals}
use Rattle.ada_rules.specs.Types.{integer, AdaType, integer_type, enumeration, formal_type, array_type, record_type, AdaSubtype, of_type, Fields, no_field, and_field, type_in, range_in, same_type, boolean_type, is_scalar, Kind, universal, kind_of, is_discrete, subtype_in_tree, type_in_tree}
use Rattle.ada_rules.specs.Entities.{Variable, Parameter, Routine, Entity, hidden, mark, literal, object, formal_object, routine, raisable, component, test_io, unit, Region}
use Rattle.ada_rules.specs.Environment.{typing, Env, regions_of, interface_of}
use Rattle.ada_rules.specs.Denoted.{Form, plain, test_form, Judged, Denoted, a_mark, a_value, a_variable, a_routine, a_call, an_exception, a_unit, the_test_io, a_thing}
use Rattle.ada_rules.specs.Expressions.{part_of_interface}
use Rattle.legal_laws.specs.Valued.{AreOrdered}

-- a procedure: one of Test_IO, or one of the program
abbrev pub CallsProcedure : Program → Target → Type 0
CallsProcedure p get_target = Unit {0}
CallsProcedure p put_target = Unit {0}
CallsProcedure p (body_target j m) = IsCallable p false (body_target j m)

-- one of a list
abbrev pub IsOneOf : {X : Type 0} → List X → X → Type 0
IsOneOf xs x = Somewhere (λ y. y ≡ x) xs

abbrev pub HasField : Fields → Type 0
HasField no_field = ⊥
HasField (and_field name t fs) = Unit {0}

-- types that code cannot tell apart: both are scalar, or objects of both have one shape in every instance
pub record AreAlikeTypes (p : Program) (t u : AdaType) : Type 0 where
  pub scalar : is_scalar t ≡ is_scalar u
  pub shape : is_scalar t ≡ false → (inst : ℕ) (r s : Range)
      → shape_in p inst (type_in_tree t r) ≡ shape_in p inst (type_in_tree u s)

-- Types are known by their identities: what is seen through an instance has other terms than where it is declared, and
-- is alike.
abbrev pub AreApart : Program → (AdaType → Type 0) → Type 0
AreApart p declared = (t u : AdaType) → declared t → declared u → same_type t u ≡ true → AreAlikeTypes p t u

-- in this instance, where these types were declared so far
module _ (p : Program) (inst : ℕ) (declared : AdaType → Type 0) where
  abbrev pub IsOrdered : Range → Type 0
  IsOrdered r = AreOrdered (static_bounds (values_of p) inst r)

  abbrev mutual
    -- the index of an array is scalar, and has a length; a record has a component
    pub IsKnownType : AdaType → Type 0
    IsKnownType (integer_type i) = declared (integer_type i)
    IsKnownType (enumeration i n) = declared (enumeration i n)
    IsKnownType (formal_type i k b) = declared (formal_type i k b)
    IsKnownType (array_type i x c) =
        declared (array_type i x c) × (IsKnownSubtype x × ((is_scalar (type_in x) ≡ true)
        × (HasNumber (static_value (values_of p) inst (static_length (range_in x))) × IsKnownSubtype c)))
    IsKnownType (record_type i fs) = declared (record_type i fs) × (HasField fs × AreKnownFields fs)

    pub IsKnownSubtype : AdaSubtype → Type 0
    IsKnownSubtype (of_type t r) = IsOrdered r × IsKnownType t

    pub AreKnownFields : Fields → Type 0
    AreKnownFields no_field = Unit {0}
    AreKnownFields (and_field name t fs) = IsKnownSubtype t × AreKnownFields fs

  abbrev pub IsKnownKind : Kind → Type 0
  IsKnownKind universal = Unit {0}
  IsKnownKind (kind_of t) = IsKnownType t

  -- a parameter of the program, and what the text says of it: the types are alike
  abbrev pub IsOfType : Shape → AdaSubtype → Type 0
  IsOfType s t =
      (is_scalar (type_in t) ≡ true → IsScalar s)
      × (is_scalar (type_in t) ≡ false → IsComposite s × (s ≡ shape_in p inst (subtype_in_tree t)))

  pub record IsParameter (q : ResolvedParameter) (r : Parameter) : Type 0 where
    pub mode : q.mode ≡ r.mode
    pub type : IsOfType q.shape r.subtype
    pub subtype : IsKnownSubtype r.subtype

  abbrev pub AreParameters : List ResolvedParameter → List Parameter → Type 0
  AreParameters [] [] = Unit {0}
  AreParameters (q ∷ qs) (r ∷ rs) = IsParameter q r × AreParameters qs rs
  AreParameters qs rs = ⊥

  abbrev pub IsResult : Target → Option Parameter → Type 0
  IsResult t None = CallsProcedure p t
  IsResult t (Some q) = IsCallable p true t × IsKnownSubtype q.subtype

  pub record IsRoutine (r : Routine) : Type 0 where
    pub parameters : AreParameters (parameters_of p (target_in p inst r.callee)) r.parameters
    pub result : IsResult (target_in p inst r.callee) r.result

  -- over objects of these shapes, of which some are visible
  module _ (shape_of : tree.Object → Shape) (Sees : tree.Object → Type 0) where
    pub record IsVariable (v : Variable) : Type 0 where
      pub visible : Sees v.object
      pub parts : AreParts p inst shape_of Sees (shape_of v.object) v.parts
      pub shape : part_shape (shape_of v.object) v.parts ≡ shape_in p inst (subtype_in_tree v.subtype)
      pub subtype : IsKnownSubtype v.subtype

    abbrev pub IsForm : Form → Type 0
    IsForm (plain e) = IsExpr p inst shape_of Sees e
    IsForm (test_form t) = IsTest p inst shape_of Sees t

    -- an expression of a discrete type is one of the program; one of a composite type names a variable
    pub record IsJudged (x : Judged) : Type 0 where
      pub form : is_discrete x.kind ≡ true → IsForm x.form
      pub kind : IsKnownKind x.kind
      pub variable : IfSome x.variable (λ v. IsVariable v × (x.kind ≡ kind_of (type_in v.subtype)))

    pub record IsCallOf (r : Routine) (actuals : tree.Actuals) : Type 0 where
      pub routine : IsRoutine r
      pub given : AreActuals p inst shape_of Sees (parameters_of p (target_in p inst r.callee)) actuals

    abbrev pub IsDenoted : Denoted → Type 0
    IsDenoted (a_mark i t) = IsKnownSubtype t
    IsDenoted (a_value x) = IsJudged x
    IsDenoted (a_variable v) = IsVariable v
    IsDenoted (a_routine r) = IsRoutine r
    IsDenoted (a_call r actuals) = IsCallOf r actuals
    IsDenoted (an_exception e) = IsException p inst shape_of e
    IsDenoted (a_unit n) = Unit {0}
    IsDenoted the_test_io = Unit {0}
    IsDenoted a_thing = Unit {0}

    abbrev pub IsEntity : Entity → Type 0
    IsEntity hidden = Unit {0}
    IsEntity (mark i t) = IsKnownSubtype t
    IsEntity (literal t x) = IsKnownType t × IsInBase x
    IsEntity (object v) = IsVariable v
    IsEntity (formal_object t e) = IsKnownSubtype t × IsNumber p inst shape_of e
    IsEntity (routine r) = IsRoutine r
    IsEntity (raisable e) = IsException p inst shape_of e
    IsEntity component = Unit {0}
    IsEntity test_io = Unit {0}
    IsEntity (unit n) = Unit {0}

    abbrev pub IsRegion : Region → Type 0
    IsRegion region = Everywhere (λ e. IsEntity e.1) region

    -- where a construct stands in the step of types: all that it may name is known
    pub record IsEnv (env : Env) : Type 0 where
      pub step : env.step ≡ typing
      pub integers : declared (integer_type integer)
      pub booleans : declared boolean_type
      pub regions : Everywhere IsRegion (regions_of env)
      pub own : IsRegion env.own
      pub units : (n : ℕ) (name : List ℕ)
          → IfSome (part_of_interface env.world name (interface_of env.world n)) IsEntity
      pub test_io : IsRegion env.world.standard.test_io_declarations
