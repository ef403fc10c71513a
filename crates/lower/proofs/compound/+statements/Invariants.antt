use Rattle.std.proofs.Common.{◌≡◌, ◌+◌, ◌*◌, drop}
use Rattle.ada_tree.specs.Sizes.{stmt_size, stmts_size, branches_size, alternatives_size, handlers_size, block_size}
use Rattle.ada_tree.specs.View.{statement_at, statements_of, branches_of, alternatives_of, handlers_of}
use Rattle.kernel_ir.specs.Sequence.{joined}
use Rattle.lower.specs.Stated.{all_for}
use Rattle.lower.proofs.compound.+statements.Given as goal

abbrev pub decreases-put_stated : goal.decreases-put_stated
decreases-put_stated l = 5 * stmt_size l.statement.now + 1

abbrev pub decreases-put_held : goal.decreases-put_held
decreases-put_held l = 5 * stmt_size (statement_at l.kind.now)

abbrev pub decreases-put_all : goal.decreases-put_all
decreases-put_all l = 5 * stmts_size (statements_of l.statements.now) + 2

abbrev pub decreases-put_branches : goal.decreases-put_branches
decreases-put_branches l = 5 * branches_size (branches_of l.branches.now (statements_of l.otherwise.now)) + 3

abbrev pub decreases-put_alternatives : goal.decreases-put_alternatives
decreases-put_alternatives l = 5 * alternatives_size (alternatives_of l.alternatives.now) + 3

abbrev pub decreases-put_loop : goal.decreases-put_loop
decreases-put_loop l = 5 * stmts_size (statements_of l.statements.now) + 3

abbrev pub decreases-put_while : goal.decreases-put_while
decreases-put_while l = 5 * stmts_size (statements_of l.statements.now) + 3

abbrev pub decreases-put_for : goal.decreases-put_for
decreases-put_for l = 5 * stmts_size (statements_of l.statements.now) + 3

abbrev pub decreases-put_frame : goal.decreases-put_frame
decreases-put_frame l = 5 * block_size l.block.now + 4

abbrev pub decreases-put_handlers : goal.decreases-put_handlers
decreases-put_handlers l = 5 * handlers_size (handlers_of l.handlers.now) + 3

-- what is left to put, behind what was put, is the whole
abbrev pub invariant-put_all-loop-statement : goal.invariant-put_all-loop-statement
invariant-put_all-loop-statement l =
    joined l.code (all_for l.context l.slot l.taken (statements_of (drop l.statement-index l.statements)))
    ≡ joined l.fn.code (all_for l.fn.context l.fn.slot l.fn.taken (statements_of l.fn.statements))
