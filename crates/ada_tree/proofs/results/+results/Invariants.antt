use Rattle.std.proofs.Common.{◌≡◌, ◌+◌, ◌*◌, drop}
use Rattle.ada_meaning.specs.Declared.{some_gives, branch_gives, alternative_gives, handler_gives}
use Rattle.ada_tree.specs.Sizes.{stmt_size, stmts_size, branches_size, alternatives_size, handlers_size, block_size}
use Rattle.ada_tree.specs.View.{statements_of, branches_of, alternatives_of, handlers_of}
use Rattle.ada_tree.proofs.results.+results.Given as goal

abbrev pub decreases-result_in_statement : goal.decreases-result_in_statement
decreases-result_in_statement l = 3 * stmt_size l.statement.now

abbrev pub decreases-result_in_block : goal.decreases-result_in_block
decreases-result_in_block l = 3 * block_size l.block.now

abbrev pub decreases-result_in_statements : goal.decreases-result_in_statements
decreases-result_in_statements l = 3 * stmts_size (statements_of l.statements.now) + 1

abbrev pub decreases-result_in_branches : goal.decreases-result_in_branches
decreases-result_in_branches l = 3 * branches_size (branches_of l.branches.now (statements_of l.otherwise.now)) + 2

abbrev pub decreases-result_in_alternatives : goal.decreases-result_in_alternatives
decreases-result_in_alternatives l = 3 * alternatives_size (alternatives_of l.alternatives.now) + 2

abbrev pub decreases-result_in_handlers : goal.decreases-result_in_handlers
decreases-result_in_handlers l = 3 * handlers_size (handlers_of l.handlers.now) + 2

-- what is left gives a result where all does
abbrev pub invariant-result_in_statements-loop-statement : goal.invariant-result_in_statements-loop-statement
invariant-result_in_statements-loop-statement l =
    some_gives (statements_of (drop l.statement-index l.statements)) ≡ some_gives (statements_of l.statements)

abbrev pub invariant-result_in_branches-loop-branch : goal.invariant-result_in_branches-loop-branch
invariant-result_in_branches-loop-branch l =
    branch_gives (branches_of (drop l.branch-index l.branches) (statements_of l.otherwise)) ≡ branch_gives (branches_of l.branches (statements_of l.otherwise))

abbrev pub invariant-result_in_alternatives-loop-alternative : goal.invariant-result_in_alternatives-loop-alternative
invariant-result_in_alternatives-loop-alternative l =
    alternative_gives (alternatives_of (drop l.alternative-index l.alternatives)) ≡ alternative_gives (alternatives_of l.alternatives)

abbrev pub invariant-result_in_handlers-loop-handler : goal.invariant-result_in_handlers-loop-handler
invariant-result_in_handlers-loop-handler l =
    handler_gives (handlers_of (drop l.handler-index l.handlers)) ≡ handler_gives (handlers_of l.handlers)
