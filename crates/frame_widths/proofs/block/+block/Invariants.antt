use Rattle.std.proofs.Common.{◌+◌, ◌*◌}
use Rattle.ada_tree.specs.Sizes.{stmt_size, stmts_size, branches_size, alternatives_size, handlers_size, block_size}
use Rattle.ada_tree.specs.View.{statements_of, branches_of, alternatives_of, handlers_of}
use Rattle.frame_widths.specs.Ends.{end_of_statements, end_of_branches, end_of_alternatives, end_of_handlers}
use Rattle.frame_widths.proofs.Counted.{Counted}
use Rattle.frame_widths.proofs.block.+block.Given as goal

abbrev pub decreases-width_of_statement : goal.decreases-width_of_statement
decreases-width_of_statement l = 3 * stmt_size l.statement.now

abbrev pub decreases-width_of_block : goal.decreases-width_of_block
decreases-width_of_block l = 3 * block_size l.block.now

abbrev pub decreases-width_of_statements : goal.decreases-width_of_statements
decreases-width_of_statements l = 3 * stmts_size (statements_of l.statements.now) + 1

abbrev pub decreases-width_of_branches : goal.decreases-width_of_branches
decreases-width_of_branches l = 3 * branches_size (branches_of l.branches.now (statements_of l.otherwise.now)) + 2

abbrev pub decreases-width_of_alternatives : goal.decreases-width_of_alternatives
decreases-width_of_alternatives l = 3 * alternatives_size (alternatives_of l.alternatives.now) + 2

abbrev pub decreases-width_of_handlers : goal.decreases-width_of_handlers
decreases-width_of_handlers l = 3 * handlers_size (handlers_of l.handlers.now) + 2

abbrev pub invariant-width_of_statements-loop-statement : goal.invariant-width_of_statements-loop-statement
invariant-width_of_statements-loop-statement l =
    Counted (λ ss. end_of_statements 0 (statements_of ss)) l.fn.statements l.statement-index l.count

abbrev pub invariant-width_of_branches-loop-branch : goal.invariant-width_of_branches-loop-branch
invariant-width_of_branches-loop-branch l =
    Counted (λ bs. end_of_branches 0 (branches_of bs (statements_of l.fn.otherwise))) l.fn.branches l.branch-index l.count

abbrev pub invariant-width_of_alternatives-loop-alternative : goal.invariant-width_of_alternatives-loop-alternative
invariant-width_of_alternatives-loop-alternative l =
    Counted (λ xs. end_of_alternatives 0 (alternatives_of xs)) l.fn.alternatives l.alternative-index l.count

abbrev pub invariant-width_of_handlers-loop-handler : goal.invariant-width_of_handlers-loop-handler
invariant-width_of_handlers-loop-handler l =
    Counted (λ hs. end_of_handlers 0 (handlers_of hs)) l.fn.handlers l.handler-index l.count
