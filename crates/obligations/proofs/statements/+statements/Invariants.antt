-- The entries so far, and then those of the rest, are those of all.
use Rattle.std.proofs.Common.{◌≡◌, ◌+◌, ◌*◌, drop}
use Rattle.ada_tree.specs.Sizes.{stmt_size, stmts_size, alternatives_size, handlers_size, block_size}
use Rattle.ada_tree.specs.View.{statements_of, alternatives_of, handlers_of}
use Rattle.obligations.specs.Entries.{joined, of_statements, of_alternatives, of_handlers, of_branches}
use Rattle.obligations.proofs.Sizes.{branch_size, all_branches_size}
use Rattle.obligations.proofs.statements.+statements.Given as goal

abbrev pub decreases-add_block : goal.decreases-add_block
decreases-add_block l = 3 * block_size l.block.now

abbrev pub decreases-add_statements : goal.decreases-add_statements
decreases-add_statements l = 3 * stmts_size (statements_of l.statements.now) + 1

abbrev pub decreases-add_statement : goal.decreases-add_statement
decreases-add_statement l = 3 * stmt_size l.statement.now

abbrev pub decreases-add_branches : goal.decreases-add_branches
decreases-add_branches l = 3 * all_branches_size l.branches.now

abbrev pub decreases-add_branch : goal.decreases-add_branch
decreases-add_branch l = 3 * branch_size l.branch.now + 2

abbrev pub invariant-add_branches-loop-branch : goal.invariant-add_branches-loop-branch
invariant-add_branches-loop-branch l =
    joined l.listing (of_branches l.statement (drop l.branch-index l.branches)) ≡ joined l.fn.listing (of_branches l.fn.statement l.fn.branches)

abbrev pub invariant-add_statements-loop-statement : goal.invariant-add_statements-loop-statement
invariant-add_statements-loop-statement l =
    joined l.listing (of_statements (statements_of (drop l.statement-index l.statements))) ≡ joined l.fn.listing (of_statements (statements_of l.fn.statements))

abbrev pub decreases-add_alternatives : goal.decreases-add_alternatives
decreases-add_alternatives l = 3 * alternatives_size (alternatives_of l.alternatives.now) + 2

abbrev pub decreases-add_handlers : goal.decreases-add_handlers
decreases-add_handlers l = 3 * handlers_size (handlers_of l.handlers.now) + 2

abbrev pub invariant-add_alternatives-loop-alternative : goal.invariant-add_alternatives-loop-alternative
invariant-add_alternatives-loop-alternative l =
    joined l.listing (of_alternatives (alternatives_of (drop l.alternative-index l.alternatives)))
    ≡ joined l.fn.listing (of_alternatives (alternatives_of l.fn.alternatives))

abbrev pub invariant-add_handlers-loop-handler : goal.invariant-add_handlers-loop-handler
invariant-add_handlers-loop-handler l =
    joined l.listing (of_handlers (handlers_of (drop l.handler-index l.handlers))) ≡ joined l.fn.listing (of_handlers (handlers_of l.fn.handlers))
