-- An item of a list is no larger than the list.
use Rattle.std.proofs.Common.{ℕ, zero, suc, ◌<◌, ◌≤◌, List, [], ◌∷◌, length, get_or, arith}
use Rattle.ada_meaning.specs.Tree.{Stmt, Stmts}
use Rattle.ada_tree.specs.Sizes.{stmt_size, stmts_size, branches_size, alternatives_size, handlers_size}
use Rattle.ada_tree.specs.View.{statements_of, branches_of, alternatives_of, handlers_of}
use Rattle.ada_tree.specs.declared.statement.Alternative.{Alternative}
use Rattle.ada_tree.specs.declared.statement.Branch.{Branch}
use Rattle.ada_tree.specs.declared.statement.Handler.{Handler}

pub statement_within : (xs : List Stmt) (i : ℕ) (d : Stmt) → i < length xs → stmt_size (get_or xs i d) ≤ stmts_size (statements_of xs)
statement_within [] i d h = absurd (omega arith)
statement_within (x ∷ xs) zero d h = omega arith
statement_within (x ∷ xs) (suc i) d h = omega (arith, statement_within xs i d (omega arith))

pub branch_within : (xs : List Branch) (other : Stmts) (i : ℕ) (d : Branch) → i < length xs
    → stmts_size (statements_of (get_or xs i d).statements.items) ≤ branches_size (branches_of xs other)
branch_within [] other i d h = absurd (omega arith)
branch_within (x ∷ xs) other zero d h = omega arith
branch_within (x ∷ xs) other (suc i) d h = omega (arith, branch_within xs other i d (omega arith))

pub other_within : (xs : List Branch) (other : Stmts) → stmts_size other ≤ branches_size (branches_of xs other)
other_within [] other = omega arith
other_within (x ∷ xs) other = omega (arith, other_within xs other)

pub alternative_within : (xs : List Alternative) (i : ℕ) (d : Alternative) → i < length xs
    → stmts_size (statements_of (get_or xs i d).statements.items) ≤ alternatives_size (alternatives_of xs)
alternative_within [] i d h = absurd (omega arith)
alternative_within (x ∷ xs) zero d h = omega arith
alternative_within (x ∷ xs) (suc i) d h = omega (arith, alternative_within xs i d (omega arith))

pub handler_within : (xs : List Handler) (i : ℕ) (d : Handler) → i < length xs
    → stmts_size (statements_of (get_or xs i d).statements.items) ≤ handlers_size (handlers_of xs)
handler_within [] i d h = absurd (omega arith)
handler_within (x ∷ xs) zero d h = omega arith
handler_within (x ∷ xs) (suc i) d h = omega (arith, handler_within xs i d (omega arith))
