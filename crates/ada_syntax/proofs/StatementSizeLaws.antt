-- An item of a list is no larger than the list.
use Rattle.std.proofs.Common.{ℕ, zero, suc, ◌<◌, ◌≤◌, List, [], ◌∷◌, length, get_or, arith}
use Rattle.ada_syntax.specs.StatementTree.{Statement, statement_size, statements_size, branches_size, alternatives_size, handlers_size}
use Rattle.ada_syntax.specs.StatementView.{statements_of, branches_of, alternatives_of, handlers_of}
use Rattle.ada_syntax.specs.declared.statement.Branch.{Branch}
use Rattle.ada_syntax.specs.declared.statement.Alternative.{Alternative}
use Rattle.ada_syntax.specs.declared.statement.Handler.{Handler}

pub statement_within : (xs : List Statement) (i : ℕ) (d : Statement) → i < length xs → statement_size (get_or xs i d) ≤ statements_size (statements_of xs)
statement_within [] i d h = absurd (omega arith)
statement_within (x ∷ xs) zero d h = omega arith
statement_within (x ∷ xs) (suc i) d h = omega (arith, statement_within xs i d (omega arith))

pub branch_within : (xs : List Branch) (i : ℕ) (d : Branch) → i < length xs → statements_size (statements_of (get_or xs i d).statements.items) ≤ branches_size (branches_of xs)
branch_within [] i d h = absurd (omega arith)
branch_within (x ∷ xs) zero d h = omega arith
branch_within (x ∷ xs) (suc i) d h = omega (arith, branch_within xs i d (omega arith))

pub alternative_within : (xs : List Alternative) (i : ℕ) (d : Alternative) → i < length xs → statements_size (statements_of (get_or xs i d).statements.items) ≤ alternatives_size (alternatives_of xs)
alternative_within [] i d h = absurd (omega arith)
alternative_within (x ∷ xs) zero d h = omega arith
alternative_within (x ∷ xs) (suc i) d h = omega (arith, alternative_within xs i d (omega arith))

pub handler_within : (xs : List Handler) (i : ℕ) (d : Handler) → i < length xs → statements_size (statements_of (get_or xs i d).statements.items) ≤ handlers_size (handlers_of xs)
handler_within [] i d h = absurd (omega arith)
handler_within (x ∷ xs) zero d h = omega arith
handler_within (x ∷ xs) (suc i) d h = omega (arith, handler_within xs i d (omega arith))
