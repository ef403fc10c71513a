-- The typed program: its subprograms, library-level objects, instances and exceptions.
use Rattle.std.specs.Prelude.{ℕ, ℤ, List, Option}
use Rattle.cov_base.specs.declared.position.Pos.{Pos}
use Rattle.ada_meaning.specs.Types.{Static, Range, Subtype}
use Rattle.ada_meaning.specs.Tree.{Block}

-- the least and the greatest value of a range
pub record Bounds : Type 0 where
  pub low : ℤ
  pub high : ℤ

-- the modes of parameters (RM 6.2)
pub data Mode : Type 0 where
  in_mode : Mode
  out_mode : Mode
  in_out_mode : Mode

-- a parameter (RM 6.1)
pub record Parameter : Type 0 where
  pub declaration : ℕ
  pub mode : Mode
  pub subtype : Subtype

-- A subprogram with its body (RM 6.3); `generic` is the number of the generic whose text it stands in. `objects` has the subtypes of its
-- objects by their numbers: those of its parameters, then of what its body declares, loop parameters among them, in the order of the text.
pub record Subprogram : Type 0 where
  pub generic : Option ℕ
  pub parameters : List Parameter
  pub objects : List Subtype
  pub body : Block

-- the initial value of an object of the library level: none, a static expression, or (others => ..)
pub data Initial : Type 0 where
  no_initial : Initial
  static_initial : Static → Initial
  others_initial : Initial → Initial

-- an object that is declared in a package; `generic` is the number of the generic that it is declared in
pub record LibraryObject : Type 0 where
  pub declaration : ℕ
  pub generic : Option ℕ
  pub subtype : Subtype
  pub initial : Initial

-- a constant of a generic (RM 3.3.1, 4.9), a declared one or what an operator or an attribute gives in a static expression: the number of
-- the generic whose text it stands in, the expression, which names only constants before this one, and the range of its subtype
pub record GenericConstant : Type 0 where
  pub generic : ℕ
  pub value : Static
  pub range : Range

-- what a call comes to: Test_IO's procedures, or the subprogram with this number in the instance with this number
pub data Target : Type 0 where
  get_target : Target
  put_target : Target
  body_target : ℕ → ℕ → Target

-- what an instance has for a formal (RM 12.3): of a formal object the static expression and its value; of a formal type the subtype, its
-- bounds, and those of its type, which a case on an expression of the type has to name (RM 5.4); of a formal subprogram the subprogram
pub data FormalActual : Type 0 where
  actual_object : Static → ℤ → FormalActual
  actual_type : Range → (subtype type : Bounds) → FormalActual
  actual_subprogram : Target → FormalActual

-- an instance (RM 12.3): the name in lower case, the place of its `package`, the number of its generic, what it has for the formals, in
-- order, and the values of its generic's constants, in order, none where a constant has no static value here
pub record Instance : Type 0 where
  pub name : List ℕ
  pub place : Pos
  pub generic : ℕ
  pub actuals : List FormalActual
  pub constants : List (Option ℤ)

-- a declaration of an exception: where it stands, the generic that it stands in, and its full name in lower case, in two parts: the
-- unit, and what comes after the unit's name and a point
pub record ExceptionDeclaration : Type 0 where
  pub declaration : ℕ
  pub place : Pos
  pub generic : Option ℕ
  pub unit : List ℕ
  pub name : List ℕ

-- an exception: a declaration in an instance (0: in no generic)
pub record Raisable : Type 0 where
  pub instance : ℕ
  pub declaration : ℕ

-- A program: subprograms are numbered by their places in their list from 0, instances from 1, the constants of each generic by their
-- places among its own. The numbers of declared exceptions are
-- their places among `exceptions`, from 5 on.
pub record Program : Type 0 where
  pub subprograms : List Subprogram
  pub main : ℕ
  pub objects : List LibraryObject
  pub constants : List GenericConstant
  pub instances : List Instance
  pub declared : List ExceptionDeclaration
  pub exceptions : List Raisable
