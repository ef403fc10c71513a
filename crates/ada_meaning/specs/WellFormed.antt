-- What code needs of a typed program, and the rules of the language ensure: numbers name what is there; parts of names, values and actuals have
-- the types of what they are for; bounds lie in the base range; statements stand where they may.
use Rattle.std.specs.Prelude.{◌≡◌, ◌≤◌, ◌⊎◌, ℕ, zero, suc, ◌+◌, ℤ, int_le, Bool, true, false, List, [], ◌∷◌, drop, length, Option, None, Some, slice_get}
use Rattle.std.specs.Option.{IfSome}
use Rattle.cov_base.specs.Lists.{Everywhere, Somewhere}
use Rattle.ada_meaning.specs.Arithmetic.{base_range, is_within}
use Rattle.ada_meaning.specs.Bodies.{Body, bodies_of, instances_of, IsBody, StandsIn}
use Rattle.ada_meaning.specs.Calls.{next_parameter}
use Rattle.ada_meaning.specs.Collected.{decisions_of}
use Rattle.ada_meaning.specs.Declared.{object_shape, object_shapes, is_function}
use Rattle.ada_meaning.specs.Objects.{number_of, objects_of, IsDeclaredOnce}
use Rattle.ada_meaning.specs.Obligations.{numbers, IsNumbered, IsResolved}
use Rattle.ada_meaning.specs.Program.{Bounds, Mode, in_mode, out_mode, in_out_mode, Target, get_target, put_target, body_target, Initial, no_initial, static_initial, others_initial, LibraryObject, Subprogram, Program}
use Rattle.ada_meaning.specs.Resolved.{ResolvedParameter, owner_in, bounds_in, shape_in, target_in, exception_in, parameters_of}
use Rattle.ada_meaning.specs.Shape.{Shape, word, row, group, Shapes, no_shape, and_shape}
use Rattle.ada_meaning.specs.Statics.{static_value, static_bounds, values_of}
use Rattle.ada_meaning.specs.Tree as tree
use Rattle.ada_meaning.specs.Types.{Static, Range}

-- a number of the base range, and bounds in it (RM 3.5.4)
abbrev pub IsInBase : ℤ → Type 0
IsInBase x = is_within base_range x ≡ true

abbrev pub AreInBase : Bounds → Type 0
AreInBase b = IsInBase b.low × IsInBase b.high

-- there is a static value, or there are static bounds, in the base range (RM 3.5, 4.9)
abbrev pub HasNumber : Option ℤ → Type 0
HasNumber None = ⊥
HasNumber (Some x) = IsInBase x

abbrev pub HasBounds : Option Bounds → Type 0
HasBounds None = ⊥
HasBounds (Some b) = AreInBase b

abbrev mutual
  -- a type: its bounds lie in the base range, and an array and a record have a component (RM 3.6, 3.8; null arrays are not in the language)
  pub IsType : Shape → Type 0
  IsType (word b) = AreInBase b
  IsType (row b s) = AreInBase b × ((int_le b.low b.high ≡ true) × IsType s)
  IsType (group no_shape) = ⊥
  IsType (group (and_shape s ss)) = IsType s × AreTypes ss

  pub AreTypes : Shapes → Type 0
  AreTypes no_shape = Unit {0}
  AreTypes (and_shape s ss) = IsType s × AreTypes ss

abbrev pub IsScalar : Shape → Type 0
IsScalar (word b) = Unit {0}
IsScalar (row b s) = ⊥
IsScalar (group ss) = ⊥

abbrev pub IsComposite : Shape → Type 0
IsComposite (word b) = ⊥
IsComposite (row b s) = Unit {0}
IsComposite (group ss) = Unit {0}

-- a mode in which a variable is set (RM 6.2)
abbrev pub SetsVariable : Mode → Type 0
SetsVariable in_mode = ⊥
SetsVariable out_mode = Unit {0}
SetsVariable in_out_mode = Unit {0}

-- the component of a record with this number, and whether there is one (RM 4.1.3)
abbrev pub component_shape : Shapes → ℕ → Shape
component_shape no_shape n = group no_shape
component_shape (and_shape s ss) zero = s
component_shape (and_shape s ss) (suc n) = component_shape ss n

abbrev pub HasComponent : Shapes → ℕ → Type 0
HasComponent no_shape n = ⊥
HasComponent (and_shape s ss) zero = Unit {0}
HasComponent (and_shape s ss) (suc n) = HasComponent ss n

-- the shape of these parts of an object of a shape
abbrev pub part_shape : Shape → tree.Parts → Shape
part_shape s tree.whole = s
part_shape (group ss) (tree.component n parts) = part_shape (component_shape ss n) parts
part_shape (row b s) (tree.element r e parts) = part_shape s parts
part_shape s parts = s

-- there is a choice
abbrev pub HasChoice : {C : Type 0} → List C → Type 0
HasChoice [] = ⊥
HasChoice (c ∷ cs) = Unit {0}

-- the most parameters of a subprogram, and conditions of a decision
abbrev pub most_parameters : ℕ
most_parameters = 16

abbrev pub most_conditions : ℕ
most_conditions = 32

-- what is visible behind the declaration of an object, and behind several
abbrev pub behind : (tree.Object → Type 0) → (declaration : ℕ) → tree.Object → Type 0
behind Sees d o = Sees o ⊎ (o ≡ tree.local_object d)

abbrev pub behind_all : (tree.Object → Type 0) → List tree.Declaration → tree.Object → Type 0
behind_all Sees [] o = Sees o
behind_all Sees (d ∷ ds) o = behind_all (behind Sees (number_of d)) ds o

-- a call in a function's place, or in a procedure's, comes to a body of the program that is one
abbrev pub IsCallable : Program → (function : Bool) → Target → Type 0
IsCallable p function get_target = ⊥
IsCallable p function put_target = ⊥
IsCallable p function (body_target j m) = (is : IsBody p (record { instance = j; subprogram = m })) × (is_function is.declared ≡ function)

module _ (p : Program) (inst : ℕ) (shape_of : tree.Object → Shape) where
  -- a subtype that has bounds, a static expression that has a value, and an exception that is there: a predefined one, or one of the program
  -- (RM 3.5, 4.9, 11.1)
  abbrev pub IsRange : Range → Type 0
  IsRange r = HasBounds (static_bounds (values_of p) inst r)

  abbrev pub IsNumber : Static → Type 0
  IsNumber e = HasNumber (static_value (values_of p) inst e)

  abbrev pub IsException : tree.ExceptionName → Type 0
  IsException x = (1 ≤ exception_in p inst x) × (exception_in p inst x ≤ 4 + length p.exceptions)

  -- the shape of an object that is set to a value when it is declared (RM 3.3.1)
  abbrev pub value_shape : tree.NewValue → Shape
  value_shape (tree.scalar_value r e) = word (bounds_in p inst r)
  value_shape (tree.composite_value t o parts) = shape_in p inst t
  value_shape (tree.others_value r v) = row (bounds_in p inst r) (value_shape v)

  module _ (Sees : tree.Object → Type 0) where
    abbrev mutual
      -- an expression of a scalar type over the objects that are visible
      pub IsExpr : tree.Expr → Type 0
      IsExpr (tree.literal x) = IsInBase x
      IsExpr (tree.constant e) = IsNumber e
      IsExpr (tree.attribute o parts e) = Sees o × (AreParts (shape_of o) parts × IsNumber e)
      IsExpr (tree.read o parts) = Sees o × (AreParts (shape_of o) parts × IsScalar (part_shape (shape_of o) parts))
      IsExpr (tree.signed s e) = IsExpr e
      IsExpr (tree.operation o e f) = IsExpr e × IsExpr f
      IsExpr (tree.relation r e f) = IsExpr e × IsExpr f
      IsExpr (tree.complement e) = IsExpr e
      IsExpr (tree.conversion r e) = IsRange r × IsExpr e
      IsExpr (tree.call c actuals) = IsCallable p true (target_in p inst c) × AreActuals (parameters_of p (target_in p inst c)) actuals
      IsExpr (tree.decision d t) = IsTest t

      -- selectors that an object of this shape has; an index of an array is one of its index range (RM 4.1.1, 4.1.3)
      pub AreParts : Shape → tree.Parts → Type 0
      AreParts s tree.whole = Unit {0}
      AreParts (group ss) (tree.component n parts) = HasComponent ss n × AreParts (component_shape ss n) parts
      AreParts (row b s) (tree.element r e parts) = (bounds_in p inst r ≡ b) × (IsExpr e × AreParts s parts)
      AreParts s parts = ⊥

      -- an actual for each of these parameters (RM 6.4.1)
      pub AreActuals : List ResolvedParameter → tree.Actuals → Type 0
      AreActuals qs tree.no_actual = qs ≡ []
      AreActuals qs (tree.by_expression e rest) =
          (1 ≤ length qs) × (IsScalar (next_parameter qs).shape × (((next_parameter qs).mode ≡ in_mode) × (IsExpr e × AreActuals (drop 1 qs) rest)))
      AreActuals qs (tree.by_variable o parts r rest) =
          (1 ≤ length qs) × (IsScalar (next_parameter qs).shape × (SetsVariable (next_parameter qs).mode
          × (Sees o × (AreParts (shape_of o) parts × (IsScalar (part_shape (shape_of o) parts) × (IsRange r × AreActuals (drop 1 qs) rest))))))
      AreActuals qs (tree.by_composite o parts rest) =
          (1 ≤ length qs) × (IsComposite (next_parameter qs).shape
          × (Sees o × (AreParts (shape_of o) parts × ((part_shape (shape_of o) parts ≡ (next_parameter qs).shape) × AreActuals (drop 1 qs) rest))))

      -- the expression of a decision
      pub IsTest : tree.Test → Type 0
      IsTest (tree.condition at e) = IsExpr e
      IsTest (tree.negation t) = IsTest t
      IsTest (tree.operator neutral t u) = IsTest t × IsTest u

    -- what an object of this shape is set to (RM 4.3.3, 5.2)
    abbrev pub IsValue : Shape → tree.NewValue → Type 0
    IsValue s (tree.scalar_value r e) = IsScalar s × (IsRange r × IsExpr e)
    IsValue s (tree.composite_value t o parts) =
        Sees o × (AreParts (shape_of o) parts × ((part_shape (shape_of o) parts ≡ s) × (shape_in p inst t ≡ s)))
    IsValue (row b s) (tree.others_value r v) = (bounds_in p inst r ≡ b) × IsValue s v
    IsValue s v = ⊥

    -- the values of a loop parameter (RM 5.5)
    abbrev pub IsTurns : tree.LoopRange → Type 0
    IsTurns (tree.over_subtype r) = IsRange r
    IsTurns (tree.over_bounds e f) = IsExpr e × IsExpr f

    -- a call of a procedure: Test_IO.Put of an expression, Test_IO.Get of a variable, or one of the program with its actuals
    abbrev pub IsCall : Target → tree.Actuals → Type 0
    IsCall put_target (tree.by_expression e tree.no_actual) = IsExpr e
    IsCall get_target (tree.by_variable o parts r tree.no_actual) =
        Sees o × (AreParts (shape_of o) parts × (IsScalar (part_shape (shape_of o) parts) × IsRange r))
    IsCall (body_target j m) actuals = IsCallable p false (body_target j m) × AreActuals (parameters_of p (body_target j m)) actuals
    IsCall t actuals = ⊥

    -- a declaration: its object has the shape of what it is set to, or of its subtype (RM 3.3.1)
    abbrev pub IsDeclaration : tree.Declaration → Type 0
    IsDeclaration (tree.initialized l d v) =
        IsValue (shape_of (tree.local_object d)) v × (value_shape v ≡ shape_of (tree.local_object d))
    IsDeclaration (tree.without_value d t) = shape_in p inst t ≡ shape_of (tree.local_object d)

  -- declarations in order
  abbrev pub AreDeclarations : (tree.Object → Type 0) → List tree.Declaration → Type 0
  AreDeclarations Sees [] = Unit {0}
  AreDeclarations Sees (d ∷ ds) = IsDeclaration Sees d × AreDeclarations (behind Sees (number_of d)) ds

  -- choices of an alternative and of a handler (RM 5.4, 11.2)
  abbrev pub IsChoice : tree.Choice → Type 0
  IsChoice (tree.value_choice e) = IsNumber e
  IsChoice (tree.range_choice e f) = IsNumber e × IsNumber f
  IsChoice tree.other_values = Unit {0}

  abbrev pub IsExceptionChoice : tree.ExceptionChoice → Type 0
  IsExceptionChoice (tree.named_exception x) = IsException x
  IsExceptionChoice tree.other_exceptions = Unit {0}

  -- of a function, or of a procedure
  module _ (function : Bool) where
    abbrev mutual
      -- a statement over visible objects; `looping`: whether it stands in a loop, `handling`: in a handler
      pub IsStatement : (tree.Object → Type 0) → (looping handling : Bool) → tree.Stmt → Type 0
      IsStatement Sees looping handling (tree.null_statement l) = Unit {0}
      IsStatement Sees looping handling (tree.assignment l o parts v) =
          Sees o × (AreParts Sees (shape_of o) parts × IsValue Sees (part_shape (shape_of o) parts) v)
      IsStatement Sees looping handling (tree.procedure_call l c actuals) = IsCall Sees (target_in p inst c) actuals
      IsStatement Sees looping handling (tree.if_statement l bs) = AreBranches Sees looping handling bs
      IsStatement Sees looping handling (tree.case_statement l e choices) = IsExpr Sees e × AreAlternatives Sees looping handling choices
      IsStatement Sees looping handling (tree.bare_loop l ss) = AreStatements Sees true handling ss
      IsStatement Sees looping handling (tree.while_loop l d t ss) = IsTest Sees t × AreStatements Sees true handling ss
      IsStatement Sees looping handling (tree.for_loop l d reversed ts ss) =
          IsScalar (shape_of (tree.local_object d)) × (IsTurns Sees ts × AreStatements (behind Sees d) true handling ss)
      IsStatement Sees looping handling (tree.exit_statement l) = looping ≡ true
      IsStatement Sees looping handling (tree.exit_when l d t) = (looping ≡ true) × IsTest Sees t
      IsStatement Sees looping handling (tree.return_statement l) = function ≡ false
      IsStatement Sees looping handling (tree.return_value l r e) = (function ≡ true) × (IsRange r × IsExpr Sees e)
      IsStatement Sees looping handling (tree.raise_statement l x) = IsException x
      IsStatement Sees looping handling (tree.raise_again l) = handling ≡ true
      IsStatement Sees looping handling (tree.block_statement b) = IsFrame Sees looping handling b

      pub AreStatements : (tree.Object → Type 0) → (looping handling : Bool) → tree.Stmts → Type 0
      AreStatements Sees looping handling tree.no_statement = Unit {0}
      AreStatements Sees looping handling (tree.and_statement s ss) = IsStatement Sees looping handling s × AreStatements Sees looping handling ss

      pub AreBranches : (tree.Object → Type 0) → (looping handling : Bool) → tree.Branches → Type 0
      AreBranches Sees looping handling (tree.else_part ss) = AreStatements Sees looping handling ss
      AreBranches Sees looping handling (tree.branch d t ss bs) =
          IsTest Sees t × (AreStatements Sees looping handling ss × AreBranches Sees looping handling bs)

      pub AreAlternatives : (tree.Object → Type 0) → (looping handling : Bool) → tree.Alternatives → Type 0
      AreAlternatives Sees looping handling tree.no_alternative = Unit {0}
      AreAlternatives Sees looping handling (tree.alternative cs ss rest) =
          (HasChoice cs × Everywhere IsChoice cs) × (AreStatements Sees looping handling ss × AreAlternatives Sees looping handling rest)

      -- a block or a body: handlers see what its declarations declare
      pub IsFrame : (tree.Object → Type 0) → (looping handling : Bool) → tree.Block → Type 0
      IsFrame Sees looping handling (tree.block ds ss hs) =
          AreDeclarations Sees ds × (AreStatements (behind_all Sees ds) looping handling ss × AreHandlers (behind_all Sees ds) looping hs)

      pub AreHandlers : (tree.Object → Type 0) → (looping : Bool) → tree.Handlers → Type 0
      AreHandlers Sees looping tree.no_handler = Unit {0}
      AreHandlers Sees looping (tree.handler cs ss hs) =
          (HasChoice cs × Everywhere IsExceptionChoice cs) × (AreStatements Sees looping true ss × AreHandlers Sees looping hs)

-- what a subprogram sees where its body begins, in an instance: its parameters, and the objects of the library level that stand there
abbrev pub StartSees : Program → (inst : ℕ) → Subprogram → tree.Object → Type 0
StartSees p inst s (tree.library_object o d) = Somewhere (λ x. (x.declaration ≡ d) × StandsIn p x.generic (owner_in inst o)) p.objects
StartSees p inst s (tree.local_object d) = Somewhere (λ q. q.declaration ≡ d) s.parameters

-- A subprogram in an instance. Its objects are numbered from 0 in the order of the text, parameters first, and each has a type: a parameter
-- that of its subtype (RM 6.1). A function has parameters of mode in alone (RM 6.5).
pub record IsSubprogram (p : Program) (inst : ℕ) (s : Subprogram) : Type 0 where
  pub numbered : objects_of s ≡ numbers 0 (length s.objects)
  pub types : Everywhere IsType (object_shapes p inst s)
  pub profile : Everywhere (λ q. shape_in p inst q.subtype ≡ object_shape p inst s (tree.local_object q.declaration)) s.parameters
  pub few : length s.parameters ≤ most_parameters
  pub given : is_function s ≡ true → Everywhere (λ q. q.mode ≡ in_mode) s.parameters
  pub frame : IsFrame p inst (object_shape p inst s) (is_function s) (StartSees p inst s) false false s.body

-- the initial value of an object of the library level
abbrev pub IsInitial : Program → (inst : ℕ) → Initial → Type 0
IsInitial p inst no_initial = Unit {0}
IsInitial p inst (static_initial e) = HasNumber (static_value (values_of p) inst e)
IsInitial p inst (others_initial i) = IsInitial p inst i

-- an object of the library level, in each instance in which it stands
abbrev pub IsLibraryObject : Program → LibraryObject → Type 0
IsLibraryObject p o = Everywhere (λ i. IsType (shape_in p i o.subtype) × IsInitial p i o.initial) (instances_of o.generic p.instances)

-- the main procedure has no parameters, and stands in no generic
pub record IsMain (s : Subprogram) : Type 0 where
  pub procedure : is_function s ≡ false
  pub bare : s.parameters ≡ []
  pub apart : s.generic ≡ None

-- A program: its numbers are those of its declarations and obligations, each instance has the values of the program's text in it, and each body is
-- as above.
pub record IsWellFormed (p : Program) : Type 0 where
  pub numbered : IsNumbered p
  pub declared : IsDeclaredOnce p
  pub resolved : IsResolved p
  pub narrow : Everywhere (λ h. tree.conditions_of h.test ≤ most_conditions) (decisions_of p.subprograms)
  pub library : Everywhere (IsLibraryObject p) p.objects
  pub bodies : Everywhere (λ (b : Body). IfSome (slice_get p.subprograms b.subprogram) (IsSubprogram p b.instance)) (bodies_of p)
  pub main : Subprogram
  pub is_main : slice_get p.subprograms p.main ≡ Some main
  pub main_alone : IsMain main
