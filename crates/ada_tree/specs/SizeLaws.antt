-- Trees are larger than their parts.
use Rattle.std.specs.Prelude.{◌+◌, ◌≤◌, max, List, [], ◌∷◌, IsTrue}
use Rattle.std.proofs.Common.{arith}
use Rattle.std.proofs.lemmas.Bool.{false≢true}
use denote.Param.Weighed.{most}
use Rattle.std.specs.Prelude.{Bool}
use Rattle.ada_meaning.specs.Tree.{Expr, Test, operator, Stmt, Stmts}
use Rattle.ada_tree.specs.Sizes.{expr_size, parts_size, actuals_size, test_size, stmt_size, stmts_size, branches_size, alternatives_size, handlers_size, block_size}
use Rattle.ada_tree.specs.View.{with_operand, with_operands, with_tests, neutral_of, is_filled, has_operators, has_forms, parts_of, actuals_of, expr_at, expr_of, test_at, test_of, statements_of, branches_of, alternatives_of, handlers_of, statement_at, statement_of, block_of}
use Rattle.ada_tree.specs.declared.expr.Expr.TheInside.{Inside}
use Rattle.ada_tree.specs.declared.expr.Expr.TheDeep.{deep-Expr, deep-ExprKind, deep-Selector, deep-Actual, deep-Operand, deep-Test, deep-TestKind}
use Rattle.ada_tree.specs.declared.expr.Actual.{Actual}
use Rattle.ada_tree.specs.declared.expr.Actual.TheVariants as actual
use Rattle.ada_tree.specs.declared.expr.Operand.{Operand}
use Rattle.ada_tree.specs.declared.expr.Selector.{Selector}
use Rattle.ada_tree.specs.declared.expr.Selector.TheVariants as selector
use Rattle.ada_tree.specs.declared.expr.ExprKind.{ExprKind}
use Rattle.ada_tree.specs.declared.expr.ExprKind.TheVariants as kind
use Rattle.ada_tree.specs.declared.expr.Test.TheInside.{Inside as InsideTest}
use Rattle.ada_tree.specs.declared.expr.TestKind.{TestKind}
use Rattle.ada_tree.specs.declared.expr.TestKind.TheVariants as test
use Rattle.ada_tree.specs.declared.statement.Alternative.{Alternative}
use Rattle.ada_tree.specs.declared.statement.Branch.{Branch}
use Rattle.ada_tree.specs.declared.statement.Handler.{Handler}
use Rattle.ada_tree.specs.declared.statement.Statement.TheInside.{Inside as InsideStatement}
use Rattle.ada_tree.specs.declared.statement.Block.TheInside.{Inside as InsideBlock}
use Rattle.ada_tree.specs.declared.statement.Block.TheDeep.{deep-Statement, deep-StatementKind, deep-Alternative, deep-Branch, deep-Handler, deep-Block}
use Rattle.ada_tree.specs.declared.statement.StatementKind.{StatementKind}
use Rattle.ada_tree.specs.declared.statement.StatementKind.TheVariants as statement

operands_below : (a : Expr) (os : List Operand) → (expr_size a ≤ expr_size (with_operands a os)) × (most deep-Operand os ≤ expr_size (with_operands a os))
operands_below a [] = (omega arith, omega arith)
operands_below a (o ∷ os) = let h = operands_below (with_operand a o) os in (omega (arith, h.0), omega (arith, h.0, h.1))

operations_below : (a : Expr) (os : List Operand) → IsTrue (is_filled os) → max (expr_size a + 1) (most deep-Operand os) ≤ expr_size (with_operands a os)
operations_below a [] h = absurd (false≢true h)
operations_below a (o ∷ os) h =
    omega (arith, (operands_below a (o ∷ os)).1, (operands_below (with_operand a o) os).0)

parts_below : (ss : List Selector) → most deep-Selector ss ≤ parts_size (parts_of ss) + 1
parts_below [] = omega arith
parts_below (selector.Component n ∷ ss) = omega (arith, parts_below ss)
parts_below (selector.Element r e ∷ ss) = omega (arith, parts_below ss)

actuals_below : (xs : List Actual) → most deep-Actual xs ≤ actuals_size (actuals_of xs) + 1
actuals_below [] = omega arith
actuals_below (actual.Expression e ∷ xs) = omega (arith, actuals_below xs)
actuals_below (actual.Variable o r ∷ xs) = omega (arith, actuals_below xs)
actuals_below (actual.Part o ss r ∷ xs) = omega (arith, parts_below ss.items, actuals_below xs)
actuals_below (actual.Composite o ss ∷ xs) = omega (arith, parts_below ss.items, actuals_below xs)

pub expr_is_larger : (e : Inside) → IsTrue (has_operators e.kind) → deep-Expr e ≤ expr_size (expr_of e)
expr_is_larger e f = omega (arith, of_kind e.kind f)
  where
    of_kind : (k : ExprKind) → IsTrue (has_operators k) → deep-ExprKind k ≤ expr_size (expr_at k)
    of_kind (kind.Literal x) h = omega arith
    of_kind (kind.Constant e) h = omega arith
    of_kind (kind.Read o) h = omega arith
    of_kind (kind.Part o ss) h = omega (arith, parts_below ss.items)
    of_kind (kind.Attribute o ss e) h = omega (arith, parts_below ss.items)
    of_kind (kind.Signed s a) h = omega arith
    of_kind (kind.Operations a os) h = omega (arith, operations_below a.value os.items h)
    of_kind (kind.Relation r a b) h = omega arith
    of_kind (kind.Complement a) h = omega arith
    of_kind (kind.Conversion r a) h = omega arith
    of_kind (kind.Call c xs) h = omega (arith, actuals_below xs.items)
    of_kind (kind.Decision l t) h = omega arith

tests_below : (neutral : Bool) (t : Test) (us : List Test) →
    (test_size t ≤ test_size (with_tests neutral t us)) × (most (λ u. test_size u + 1) us ≤ test_size (with_tests neutral t us))
tests_below neutral t [] = (omega arith, omega arith)
tests_below neutral t (u ∷ us) = let h = tests_below neutral (operator neutral t u) us in (omega (arith, h.0), omega (arith, h.0, h.1))

forms_below : (neutral : Bool) (t : Test) (us : List Test) → IsTrue (is_filled us) → max (test_size t + 1) (most (λ u. test_size u + 1) us) ≤ test_size (with_tests neutral t us)
forms_below neutral t [] h = absurd (false≢true h)
forms_below neutral t (u ∷ us) h = omega (arith, (tests_below neutral t (u ∷ us)).1, (tests_below neutral (operator neutral t u) us).0)

pub test_is_larger : (t : InsideTest) → IsTrue (has_forms t.kind) → deep-Test t ≤ test_size (test_of t)
test_is_larger t f = omega (arith, of_kind t.kind f)
  where
    of_kind : (k : TestKind) → IsTrue (has_forms k) → deep-TestKind k ≤ test_size (test_at k)
    of_kind (test.Condition at e) h = omega arith
    of_kind (test.Negation u) h = omega arith
    of_kind (test.ShortCircuit s u us) h = omega (arith, forms_below (neutral_of s) u.value us.items h)

statements_below : (ss : List Stmt) → most (λ s. stmt_size s + 1) ss ≤ stmts_size (statements_of ss) + 1
statements_below [] = omega arith
statements_below (s ∷ ss) = omega (arith, statements_below ss)

branches_below : (bs : List Branch) (other : Stmts) → (most deep-Branch bs ≤ branches_size (branches_of bs other) + 1) × (stmts_size other ≤ branches_size (branches_of bs other))
branches_below [] other = (omega arith, omega arith)
branches_below (b ∷ bs) other = let h = branches_below bs other in (omega (arith, h.0, statements_below b.statements.items), omega (arith, h.1))

alternatives_below : (xs : List Alternative) → most deep-Alternative xs ≤ alternatives_size (alternatives_of xs) + 1
alternatives_below [] = omega arith
alternatives_below (a ∷ xs) = omega (arith, alternatives_below xs, statements_below a.statements.items)

handlers_below : (hs : List Handler) → most deep-Handler hs ≤ handlers_size (handlers_of hs) + 1
handlers_below [] = omega arith
handlers_below (h ∷ hs) = omega (arith, handlers_below hs, statements_below h.statements.items)

pub block_is_larger : (b : InsideBlock) → deep-Block b ≤ block_size (block_of b)
block_is_larger b = omega (arith, statements_below b.statements.items, handlers_below b.handlers.items)

pub statement_is_larger : (s : InsideStatement) → deep-Statement s ≤ stmt_size (statement_of s)
statement_is_larger s = omega (arith, of_kind s.kind)
  where
    of_kind : (k : StatementKind) → deep-StatementKind k ≤ stmt_size (statement_at k)
    of_kind (statement.Null l) = omega arith
    of_kind (statement.Assignment l o v) = omega arith
    of_kind (statement.PartAssignment l o ss v) = omega arith
    of_kind (statement.Call l c actuals) = omega arith
    of_kind (statement.Case l e xs) = omega (arith, alternatives_below xs.items)
    of_kind (statement.For l f ss) = omega (arith, statements_below ss.items)
    of_kind (statement.If l bs ss) = let h = branches_below bs.items (statements_of ss.items) in omega (arith, h.0, h.1, statements_below ss.items)
    of_kind (statement.Loop l ss) = omega (arith, statements_below ss.items)
    of_kind (statement.While l d ss) = omega (arith, statements_below ss.items)
    of_kind (statement.Exit l) = omega arith
    of_kind (statement.ExitWhen l d) = omega arith
    of_kind (statement.Return l) = omega arith
    of_kind (statement.ReturnValue l r e) = omega arith
    of_kind (statement.Raise l x) = omega arith
    of_kind (statement.RaiseAgain l) = omega arith
    of_kind (statement.Block b) = omega arith
