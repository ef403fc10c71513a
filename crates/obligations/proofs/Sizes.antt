-- A statement is no larger than the statements that it stands among, and a branch than the branches.
use Rattle.std.proofs.Common.{◌≡◌, ℕ, zero, suc, ◌+◌, ◌<◌, ◌≤◌, List, [], ◌∷◌, length, get_or, arith}
use Rattle.ada_meaning.specs.Tree.{Stmt, Stmts, no_statement}
use Rattle.ada_tree.specs.declared.statement.Branch.{Branch}
use Rattle.ada_tree.specs.Sizes.{stmt_size, stmts_size, branches_size}
use Rattle.ada_tree.specs.View.{statements_of, branches_of}

pub statement_within : (ss : List Stmt) (i : ℕ) (d : Stmt) → i < length ss → stmt_size (get_or ss i d) ≤ stmts_size (statements_of ss)
statement_within [] i d h = absurd (omega arith)
statement_within (s ∷ ss) zero d h = omega arith
statement_within (s ∷ ss) (suc i) d h = omega (arith, statement_within ss i d (omega arith))

abbrev pub branch_size : Branch → ℕ
branch_size b = stmts_size (statements_of b.statements.items)

-- the branches, without the else part
abbrev pub all_branches_size : List Branch → ℕ
all_branches_size bs = branches_size (branches_of bs no_statement)

pub branch_within : (bs : List Branch) (i : ℕ) (d : Branch) → i < length bs → branch_size (get_or bs i d) + 1 ≤ all_branches_size bs
branch_within [] i d h = absurd (omega arith)
branch_within (b ∷ bs) zero d h = omega arith
branch_within (b ∷ bs) (suc i) d h = omega (arith, branch_within bs i d (omega arith))

pub else_behind : (bs : List Branch) (other : Stmts) → branches_size (branches_of bs other) ≡ all_branches_size bs + stmts_size other
else_behind [] other = omega arith
else_behind (b ∷ bs) other = omega (arith, else_behind bs other)
