-- The plain data that expressions, statements and bodies are seen as. Composite types are told by their numbers.
use Rattle.std.specs.Prelude.{ℕ, Bool, true, false, List, [], ◌∷◌, map}
use Rattle.ada_meaning.specs.Types as type
use Rattle.ada_meaning.specs.Tree as tree
use Rattle.ada_meaning.specs.Resolved.{constraint_error, program_error, storage_error, end_error}
use Rattle.ada_tree.specs.declared.types.Owner.{Owner}
use Rattle.ada_tree.specs.declared.types.Owner.TheVariants as owner
use Rattle.ada_tree.specs.declared.types.Range.{Range}
use Rattle.ada_tree.specs.declared.types.StaticValue.{StaticValue}
use Rattle.ada_tree.specs.declared.types.StaticValue.TheVariants as named
use Rattle.ada_tree.specs.declared.types.ScalarRange.{ScalarRange}
use Rattle.ada_tree.specs.declared.types.ScalarRange.TheVariants as range
use Rattle.ada_tree.specs.declared.types.Static.{Static}
use Rattle.ada_tree.specs.declared.types.Static.TheVariants as static
use Rattle.ada_tree.specs.declared.types.Subtype.{Subtype}
use Rattle.ada_tree.specs.declared.types.Subtype.TheVariants as subtype
use Rattle.ada_tree.specs.declared.types.CompositeType.{CompositeType}
use Rattle.ada_tree.specs.declared.types.CompositeType.TheVariants as composite
use Rattle.ada_tree.specs.declared.types.Sign.{Sign}
use Rattle.ada_tree.specs.declared.types.Sign.TheVariants as sign
use Rattle.ada_tree.specs.declared.types.Operator.{Operator}
use Rattle.ada_tree.specs.declared.types.Operator.TheVariants as operator
use Rattle.ada_tree.specs.declared.types.Relation.{Relation}
use Rattle.ada_tree.specs.declared.types.Relation.TheVariants as relation
use Rattle.ada_tree.specs.declared.expr.Object.{Object}
use Rattle.ada_tree.specs.declared.expr.Object.TheVariants as object
use Rattle.ada_tree.specs.declared.expr.PredefinedException.{PredefinedException}
use Rattle.ada_tree.specs.declared.expr.PredefinedException.TheVariants as predefined
use Rattle.ada_tree.specs.declared.expr.ExceptionName.{ExceptionName}
use Rattle.ada_tree.specs.declared.expr.ExceptionName.TheVariants as exception
use Rattle.ada_tree.specs.declared.expr.Selector.{Selector}
use Rattle.ada_tree.specs.declared.expr.Selector.TheVariants as selector
use Rattle.ada_tree.specs.declared.expr.Operand.{Operand}
use Rattle.ada_tree.specs.declared.expr.Callee.{Callee}
use Rattle.ada_tree.specs.declared.expr.Callee.TheVariants as callee
use Rattle.ada_tree.specs.declared.expr.Expr.TheInside.{Inside as InsideExpr}
use Rattle.ada_tree.specs.declared.expr.ExprKind.{ExprKind}
use Rattle.ada_tree.specs.declared.expr.ExprKind.TheVariants as expr
use Rattle.ada_tree.specs.declared.expr.Test.TheInside.{Inside as InsideTest}
use Rattle.ada_tree.specs.declared.expr.TestKind.{TestKind}
use Rattle.ada_tree.specs.declared.expr.TestKind.TheVariants as test
use Rattle.ada_tree.specs.declared.expr.Actual.{Actual}
use Rattle.ada_tree.specs.declared.expr.Actual.TheVariants as actual
use Rattle.ada_tree.specs.declared.expr.ShortCircuit.{ShortCircuit}
use Rattle.ada_tree.specs.declared.expr.ShortCircuit.TheVariants as form
use Rattle.ada_tree.specs.declared.label.Label.{Label}
use Rattle.ada_tree.specs.declared.statement.Indices.{Indices}
use Rattle.ada_tree.specs.declared.statement.NewValue.{NewValue}
use Rattle.ada_tree.specs.declared.statement.NewValue.TheVariants as value
use Rattle.ada_tree.specs.declared.statement.Choice.{Choice}
use Rattle.ada_tree.specs.declared.statement.Choice.TheVariants as choice
use Rattle.ada_tree.specs.declared.statement.ExceptionChoice.{ExceptionChoice}
use Rattle.ada_tree.specs.declared.statement.ExceptionChoice.TheVariants as caught
use Rattle.ada_tree.specs.declared.statement.LoopRange.{LoopRange}
use Rattle.ada_tree.specs.declared.statement.LoopRange.TheVariants as turns
use Rattle.ada_tree.specs.declared.statement.Direction.{Direction}
use Rattle.ada_tree.specs.declared.statement.Direction.TheVariants as direction
use Rattle.ada_tree.specs.declared.statement.Alternative.{Alternative}
use Rattle.ada_tree.specs.declared.statement.Handler.{Handler}
use Rattle.ada_tree.specs.declared.statement.Declaration.{Declaration}
use Rattle.ada_tree.specs.declared.statement.Declaration.TheVariants as declaration
use Rattle.ada_tree.specs.declared.statement.Branch.{Branch}
use Rattle.ada_tree.specs.declared.statement.Statement.TheInside.{Inside as InsideStatement}
use Rattle.ada_tree.specs.declared.statement.StatementKind.{StatementKind}
use Rattle.ada_tree.specs.declared.statement.StatementKind.TheVariants as kind
use Rattle.ada_tree.specs.declared.statement.Block.TheInside.{Inside as InsideBlock}

abbrev pub owner_of : Owner → type.Owner
owner_of owner.Here = type.here
owner_of (owner.Instance n) = type.of_instance n

-- a range, by its bounds
abbrev pub range_of : Range → type.Range
range_of r = type.between (type.static_number r.first) (type.static_number r.last)

abbrev pub sign_of : Sign → type.Sign
sign_of sign.Plus = type.unary_plus
sign_of sign.Minus = type.unary_minus
sign_of sign.Absolute = type.absolute_value

abbrev pub operator_of : Operator → type.Operator
operator_of operator.Add = type.addition
operator_of operator.Subtract = type.subtraction
operator_of operator.Multiply = type.multiplication
operator_of operator.Divide = type.division
operator_of operator.Modulus = type.modulus
operator_of operator.Remainder = type.remainder

abbrev pub static_value_of : StaticValue → type.Static
static_value_of (named.Number x) = type.static_number x
static_value_of (named.Formal k) = type.static_formal k
static_value_of (named.Constant k) = type.static_constant k

-- a static expression and a range, by whose they are
abbrev pub static_by : Owner → type.Static → type.Static
static_by owner.Here e = e
static_by (owner.Instance i) e = type.static_of i e

abbrev pub range_by : Owner → type.Range → type.Range
range_by owner.Here r = r
range_by (owner.Instance i) r = type.range_of i r

abbrev pub scalar_range_of : ScalarRange → type.Range
scalar_range_of (range.Known r) = range_of r
scalar_range_of (range.Between o a b) = range_by o (type.between (static_value_of a) (static_value_of b))
scalar_range_of (range.Formal o k) = range_by o (type.formal_range k)

abbrev pub static_of : Static → type.Static
static_of (static.Value o v) = static_by o (static_value_of v)
static_of (static.First r) = type.static_first (scalar_range_of r)
static_of (static.Last r) = type.static_last (scalar_range_of r)
static_of (static.Length r) = type.static_length (scalar_range_of r)
static_of (static.Signed s v) = type.static_sign (sign_of s) (static_value_of v)
static_of (static.Operation o a b) = type.static_operation (operator_of o) (static_value_of a) (static_value_of b)

-- A composite type by its number, where the table of types is not at hand. No type of the language is an empty record (RM 3.8), so this
-- is no type of a program.
abbrev pub numbered : ℕ → type.Subtype
numbered n = type.subtype_of n (type.fields type.no_component)

-- a type, by whose it is
abbrev pub subtype_by : Owner → type.Subtype → type.Subtype
subtype_by owner.Here t = t
subtype_by (owner.Instance i) t = type.subtype_of i t

abbrev pub subtype_of : Subtype → type.Subtype
subtype_of (subtype.Scalar r) = type.scalar (scalar_range_of r)
subtype_of (subtype.Composite o n) = subtype_by o (numbered n)

abbrev pub components_of : List Subtype → type.Components
components_of [] = type.no_component
components_of (t ∷ ts) = type.and_component (subtype_of t) (components_of ts)

abbrev pub composite_of : CompositeType → type.Subtype
composite_of (composite.Array r t) = type.array (scalar_range_of r) (subtype_of t)
composite_of (composite.Record ts) = type.fields (components_of ts)

abbrev pub relation_of : Relation → type.Relation
relation_of relation.Equal = type.equal
relation_of relation.NotEqual = type.unequal
relation_of relation.Less = type.less
relation_of relation.LessOrEqual = type.at_most
relation_of relation.Greater = type.greater
relation_of relation.GreaterOrEqual = type.at_least

abbrev pub object_of : Object → tree.Object
object_of (object.Library o d) = tree.library_object (owner_of o) d
object_of (object.Local d) = tree.local_object d

abbrev pub callee_of : Callee → tree.Callee
callee_of callee.TestGet = tree.test_get
callee_of callee.TestPut = tree.test_put
callee_of (callee.Subprogram o n) = tree.subprogram (owner_of o) n
callee_of (callee.Formal k) = tree.formal_subprogram k

-- the numbers of the predefined exceptions
abbrev pub predefined_of : PredefinedException → ℕ
predefined_of predefined.ConstraintError = constraint_error
predefined_of predefined.ProgramError = program_error
predefined_of predefined.StorageError = storage_error
predefined_of predefined.EndError = end_error

abbrev pub exception_of : ExceptionName → tree.ExceptionName
exception_of (exception.Predefined x) = tree.predefined (predefined_of x)
exception_of (exception.Declared o d) = tree.declared (owner_of o) d

-- the selectors of a name, from the left
abbrev pub with_selector : Selector → tree.Parts → tree.Parts
with_selector (selector.Component n) parts = tree.component n parts
with_selector (selector.Element r e) parts = tree.element (scalar_range_of r) e parts

abbrev pub parts_of : List Selector → tree.Parts
parts_of [] = tree.whole
parts_of (s ∷ ss) = with_selector s (parts_of ss)

-- an actual parameter, and those after it
abbrev pub with_actual : Actual → tree.Actuals → tree.Actuals
with_actual (actual.Expression e) rest = tree.by_expression e rest
with_actual (actual.Variable o r) rest = tree.by_variable (object_of o) tree.whole (scalar_range_of r) rest
with_actual (actual.Part o ss r) rest = tree.by_variable (object_of o) (parts_of ss.items) (scalar_range_of r) rest
with_actual (actual.Composite o ss) rest = tree.by_composite (object_of o) (parts_of ss.items) rest

abbrev pub actuals_of : List Actual → tree.Actuals
actuals_of [] = tree.no_actual
actuals_of (a ∷ rest) = with_actual a (actuals_of rest)

-- an expression and the operand right of it
abbrev pub with_operand : tree.Expr → Operand → tree.Expr
with_operand e o = tree.operation (operator_of o.operator) e o.operand

-- the same of several operands, from the left
abbrev pub with_operands : tree.Expr → List Operand → tree.Expr
with_operands e [] = e
with_operands e (o ∷ os) = with_operands (with_operand e o) os

abbrev pub is_filled : {A : Type 0} → List A → Bool
is_filled [] = false
is_filled (x ∷ xs) = true

-- operations have at least one operator
abbrev pub has_operators : ExprKind → Bool
has_operators (expr.Operations e os) = is_filled os.items
has_operators _ = true

abbrev pub label_of : Label → tree.Label
label_of l = record { number = l.number; place = l.place }

-- the neutral value of a form: the one of the left operand with which the right one is evaluated
abbrev pub neutral_of : ShortCircuit → Bool
neutral_of form.AndThen = true
neutral_of form.OrElse = false

-- a test, and those that a form joins to it, from the left
abbrev pub with_tests : (neutral : Bool) → tree.Test → List tree.Test → tree.Test
with_tests neutral t [] = t
with_tests neutral t (u ∷ us) = with_tests neutral (tree.operator neutral t u) us

-- a form has at least two operands
abbrev pub has_forms : TestKind → Bool
has_forms (test.ShortCircuit f t us) = is_filled us.items
has_forms _ = true

abbrev pub expr_at : ExprKind → tree.Expr
expr_at (expr.Literal x) = tree.literal x
expr_at (expr.Constant e) = tree.constant (static_of e)
expr_at (expr.Read o) = tree.read (object_of o) tree.whole
expr_at (expr.Part o ss) = tree.read (object_of o) (parts_of ss.items)
expr_at (expr.Attribute o ss e) = tree.attribute (object_of o) (parts_of ss.items) (static_of e)
expr_at (expr.Signed s e) = tree.signed (sign_of s) e.value
expr_at (expr.Operations e os) = with_operands e.value os.items
expr_at (expr.Relation r a b) = tree.relation (relation_of r) a.value b.value
expr_at (expr.Complement e) = tree.complement e.value
expr_at (expr.Conversion r e) = tree.conversion (scalar_range_of r) e.value
expr_at (expr.Call c actuals) = tree.call (callee_of c) (actuals_of actuals.items)
expr_at (expr.Decision l t) = tree.decision (label_of l) t.value

abbrev pub expr_of : InsideExpr → tree.Expr
expr_of e = expr_at e.kind

abbrev pub test_at : TestKind → tree.Test
test_at (test.Condition at e) = tree.condition at e
test_at (test.Negation t) = tree.negation t.value
test_at (test.ShortCircuit f t us) = with_tests (neutral_of f) t.value us.items

abbrev pub test_of : InsideTest → tree.Test
test_of t = test_at t.kind

-- `(others => ..)` round a value, for each of these indices
abbrev pub others_of : List ScalarRange → tree.NewValue → tree.NewValue
others_of [] v = v
others_of (r ∷ rs) v = tree.others_value (scalar_range_of r) (others_of rs v)

abbrev pub others_by : Indices → tree.NewValue → tree.NewValue
others_by i v = tree.others_value (scalar_range_of i.outermost) (others_of i.inner v)

abbrev pub composite_by : Owner → ℕ → Object → List Selector → tree.NewValue
composite_by w n o ss = tree.composite_value (subtype_by w (numbered n)) (object_of o) (parts_of ss)

abbrev pub value_of : NewValue → tree.NewValue
value_of (value.Scalar r e) = tree.scalar_value (scalar_range_of r) e
value_of (value.Composite w n o ss) = composite_by w n o ss.items
value_of (value.OthersScalar i r e) = others_by i (tree.scalar_value (scalar_range_of r) e)
value_of (value.OthersComposite i w n o ss) = others_by i (composite_by w n o ss.items)

abbrev pub choice_of : Choice → tree.Choice
choice_of (choice.Value e) = tree.value_choice (static_of e)
choice_of (choice.Range e f) = tree.range_choice (static_of e) (static_of f)
choice_of choice.Others = tree.other_values

abbrev pub exception_choice_of : ExceptionChoice → tree.ExceptionChoice
exception_choice_of (caught.Exception x) = tree.named_exception (exception_of x)
exception_choice_of caught.Others = tree.other_exceptions

abbrev pub turns_of : LoopRange → tree.LoopRange
turns_of (turns.Subtype r) = tree.over_subtype (scalar_range_of r)
turns_of (turns.Bounds e f) = tree.over_bounds e f

abbrev pub is_reversed : Direction → Bool
is_reversed direction.Rising = false
is_reversed direction.Falling = true

abbrev pub declaration_of : Declaration → tree.Declaration
declaration_of (declaration.Initialized l d v) = tree.initialized (label_of l) d (value_of v)
declaration_of (declaration.WithoutValue d s) = tree.without_value d (subtype_of s)

abbrev pub statements_of : List tree.Stmt → tree.Stmts
statements_of [] = tree.no_statement
statements_of (s ∷ ss) = tree.and_statement s (statements_of ss)

-- branches, and the statements of the else part
abbrev pub branches_of : List Branch → tree.Stmts → tree.Branches
branches_of [] other = tree.else_part other
branches_of (b ∷ bs) other = tree.branch (label_of b.decision.label) b.decision.test (statements_of b.statements.items) (branches_of bs other)

abbrev pub alternatives_of : List Alternative → tree.Alternatives
alternatives_of [] = tree.no_alternative
alternatives_of (a ∷ rest) = tree.alternative (map choice_of a.choices) (statements_of a.statements.items) (alternatives_of rest)

abbrev pub handlers_of : List Handler → tree.Handlers
handlers_of [] = tree.no_handler
handlers_of (h ∷ rest) = tree.handler (map exception_choice_of h.choices) (statements_of h.statements.items) (handlers_of rest)

abbrev pub statement_at : StatementKind → tree.Stmt
statement_at (kind.Null l) = tree.null_statement (label_of l)
statement_at (kind.Assignment l o v) = tree.assignment (label_of l) (object_of o) tree.whole (value_of v)
statement_at (kind.PartAssignment l o ss v) = tree.assignment (label_of l) (object_of o) (parts_of ss.items) (value_of v)
statement_at (kind.Call l c actuals) = tree.procedure_call (label_of l) (callee_of c) (actuals_of actuals)
statement_at (kind.If l bs ss) = tree.if_statement (label_of l) (branches_of bs.items (statements_of ss.items))
statement_at (kind.Case l e choices) = tree.case_statement (label_of l) e (alternatives_of choices.items)
statement_at (kind.Loop l ss) = tree.bare_loop (label_of l) (statements_of ss.items)
statement_at (kind.While l d ss) = tree.while_loop (label_of l) (label_of d.label) d.test (statements_of ss.items)
statement_at (kind.For l f ss) =
    tree.for_loop (label_of l) f.parameter (is_reversed f.direction) (turns_of f.values) (statements_of ss.items)
statement_at (kind.Exit l) = tree.exit_statement (label_of l)
statement_at (kind.ExitWhen l d) = tree.exit_when (label_of l) (label_of d.label) d.test
statement_at (kind.Return l) = tree.return_statement (label_of l)
statement_at (kind.ReturnValue l r e) = tree.return_value (label_of l) (scalar_range_of r) e
statement_at (kind.Raise l x) = tree.raise_statement (label_of l) (exception_of x)
statement_at (kind.RaiseAgain l) = tree.raise_again (label_of l)
statement_at (kind.Block b) = tree.block_statement b

abbrev pub statement_of : InsideStatement → tree.Stmt
statement_of s = statement_at s.kind

abbrev pub block_of : InsideBlock → tree.Block
block_of b = tree.block (map declaration_of b.declarations) (statements_of b.statements.items) (handlers_of b.handlers.items)
