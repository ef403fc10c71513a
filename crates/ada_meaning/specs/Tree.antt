-- Expressions and statements of the typed program, as trees. Declarations, subprograms and exceptions are known by number.
use Rattle.std.specs.Prelude.{ℕ, ℤ, Bool, List}
use Rattle.cov_base.specs.declared.position.Pos.{Pos}
use Rattle.cov_base.specs.Expr as logic
use Rattle.ada_meaning.specs.Types.{Sign, Operator, Relation, Owner, Static, Range, Subtype}

-- the number of a statement obligation or of a decision, and the place of its first token
pub record Label : Type 0 where
  pub number : ℕ
  pub place : Pos

-- an object by its declaration: one of the library level, or one of the subprogram that is executed
pub data Object : Type 0 where
  library_object : Owner → ℕ → Object
  local_object : ℕ → Object

-- what a call names (RM 6.4): Test_IO's procedures, a subprogram, or the formal subprogram with this place among the formals of the
-- generic (RM 12.6)
pub data Callee : Type 0 where
  test_get : Callee
  test_put : Callee
  subprogram : Owner → ℕ → Callee
  formal_subprogram : ℕ → Callee

-- an exception by name (RM 11.1): a predefined one by its number, or a declared one by its declaration
pub data ExceptionName : Type 0 where
  predefined : ℕ → ExceptionName
  declared : Owner → ℕ → ExceptionName

mutual
  -- an expression (RM 4.4)
  pub data Expr : Type 0 where
    -- a numeral, or the position number of an enumeration literal (RM 2.4, 3.5.1)
    literal : ℤ → Expr
    -- a formal object, or an attribute of a type (RM 12.4, 3.5, 3.6.2)
    constant : Static → Expr
    -- First, Last or Length of an object: its prefix, and the attribute's value (RM 3.6.2)
    attribute : Object → Parts → Static → Expr
    -- the value of an object or of a part of one (RM 4.1)
    read : Object → Parts → Expr
    -- an operator with one operand, an operator with two, and a relation (RM 4.5)
    signed : Sign → Expr → Expr
    operation : Operator → Expr → Expr → Expr
    relation : Relation → Expr → Expr → Expr
    -- `not` of what holds no `and then` and no `or else` (RM 4.5.6)
    complement : Expr → Expr
    -- a conversion to this subtype (RM 4.6)
    conversion : Range → Expr → Expr
    -- a call of a function (RM 6.4)
    call : Callee → Actuals → Expr
    -- a decision: a maximal Boolean expression with at least one short-circuit control form (RM 4.5.1)
    decision : Label → Test → Expr

  -- the selectors of a name after its object, from the left (RM 4.1.1, 4.1.3)
  pub data Parts : Type 0 where
    whole : Parts
    -- the component of a record with this place among its components
    component : ℕ → Parts → Parts
    -- the component of an array with this index
    element : Range → Expr → Parts → Parts

  -- the actual parameters of a call, in order (RM 6.4.1)
  pub data Actuals : Type 0 where
    no_actual : Actuals
    -- for a scalar parameter of mode in
    by_expression : Expr → Actuals → Actuals
    -- for a scalar parameter of another mode: the variable, and its subtype
    by_variable : Object → Parts → Range → Actuals → Actuals
    -- for a composite parameter of any mode
    by_composite : Object → Parts → Actuals → Actuals

  -- the expression of a decision: `and then` is the operator whose neutral value is true, `or else` the one whose neutral value is false
  pub data Test : Type 0 where
    -- an operand without `not` and parentheses, and the place of its first token
    condition : Pos → Expr → Test
    negation : Test → Test
    operator : (neutral : Bool) (left right : Test) → Test

-- what an object is set to, in an assignment or a declaration
pub data NewValue : Type 0 where
  -- an expression, for a scalar object of this subtype
  scalar_value : Range → Expr → NewValue
  -- a name, for a composite object of this type
  composite_value : Subtype → Object → Parts → NewValue
  -- (others => ..), for an array with this index (RM 4.3.3)
  others_value : Range → NewValue → NewValue

-- a choice of a case alternative (RM 5.4)
pub data Choice : Type 0 where
  value_choice : Static → Choice
  range_choice : Static → Static → Choice
  other_values : Choice

-- a choice of a handler (RM 11.2)
pub data ExceptionChoice : Type 0 where
  named_exception : ExceptionName → ExceptionChoice
  other_exceptions : ExceptionChoice

-- the values of a loop parameter (RM 5.5): those of a subtype, or those between two bounds
pub data LoopRange : Type 0 where
  over_subtype : Range → LoopRange
  over_bounds : Expr → Expr → LoopRange

-- an object declaration inside a subprogram or block (RM 3.3.1)
pub data Declaration : Type 0 where
  -- with an initial expression, and so a statement obligation
  initialized : Label → ℕ → NewValue → Declaration
  without_value : ℕ → Subtype → Declaration

mutual
  -- a statement (RM 5.1)
  pub data Stmt : Type 0 where
    null_statement : Label → Stmt
    -- the object, its parts, and what it is set to (RM 5.2)
    assignment : Label → Object → Parts → NewValue → Stmt
    procedure_call : Label → Callee → Actuals → Stmt
    if_statement : Label → Branches → Stmt
    case_statement : Label → Expr → Alternatives → Stmt
    -- the three loops (RM 5.5); the second label is that of the decision
    bare_loop : Label → Stmts → Stmt
    while_loop : Label → Label → Test → Stmts → Stmt
    -- the loop parameter's declaration, whether the loop is reverse, its values, and its body
    for_loop : Label → ℕ → Bool → LoopRange → Stmts → Stmt
    -- leaving the innermost loop, always or by a decision (RM 5.7)
    exit_statement : Label → Stmt
    exit_when : Label → Label → Test → Stmt
    return_statement : Label → Stmt
    -- of a function, with the subtype of its result (RM 6.5)
    return_value : Label → Range → Expr → Stmt
    -- raising an exception by name, or again (RM 11.3)
    raise_statement : Label → ExceptionName → Stmt
    raise_again : Label → Stmt
    block_statement : Block → Stmt

  -- a sequence of statements
  pub data Stmts : Type 0 where
    no_statement : Stmts
    and_statement : Stmt → Stmts → Stmts

  -- `if` and `elsif` with their decisions, and at last the else part, which may hold no statement (RM 5.3)
  pub data Branches : Type 0 where
    else_part : Stmts → Branches
    branch : Label → Test → Stmts → Branches → Branches

  -- the alternatives of a case statement, each with its choices (RM 5.4)
  pub data Alternatives : Type 0 where
    no_alternative : Alternatives
    alternative : List Choice → Stmts → Alternatives → Alternatives

  -- the handlers of a frame, in order (RM 11.2)
  pub data Handlers : Type 0 where
    no_handler : Handlers
    handler : List ExceptionChoice → Stmts → Handlers → Handlers

  -- declarations, statements and handlers: of a block statement (RM 5.6) or of a body (RM 6.3)
  pub data Block : Type 0 where
    block : List Declaration → Stmts → Handlers → Block

-- the expression of a decision, without the contents of its conditions
abbrev pub shape_of : Test → logic.Expr
shape_of (condition at e) = logic.condition
shape_of (negation t) = logic.negation (shape_of t)
shape_of (operator neutral t u) = logic.operator neutral (shape_of t) (shape_of u)

-- how many conditions a decision has
abbrev pub conditions_of : Test → ℕ
conditions_of t = logic.size (shape_of t)
