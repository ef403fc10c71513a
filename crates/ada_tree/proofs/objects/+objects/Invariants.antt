use Rattle.std.proofs.Common.{◌≡◌, ◌+◌, ◌*◌, drop, length}
use Rattle.ada_meaning.specs.Objects.{all_objects, branch_objects, alternative_objects, handler_objects}
use Rattle.ada_tree.specs.Objects.{capped}
use Rattle.ada_tree.specs.Sizes.{stmt_size, stmts_size, branches_size, alternatives_size, handlers_size, block_size}
use Rattle.ada_tree.specs.View.{statements_of, branches_of, alternatives_of, handlers_of}
use Rattle.ada_tree.proofs.objects.+objects.Given as goal

abbrev pub decreases-objects_of_statement : goal.decreases-objects_of_statement
decreases-objects_of_statement l = 3 * stmt_size l.statement.now

abbrev pub decreases-objects_of_block : goal.decreases-objects_of_block
decreases-objects_of_block l = 3 * block_size l.block.now

abbrev pub decreases-objects_of_statements : goal.decreases-objects_of_statements
decreases-objects_of_statements l = 3 * stmts_size (statements_of l.statements.now) + 1

abbrev pub decreases-objects_of_branches : goal.decreases-objects_of_branches
decreases-objects_of_branches l = 3 * branches_size (branches_of l.branches.now (statements_of l.otherwise.now)) + 2

abbrev pub decreases-objects_of_alternatives : goal.decreases-objects_of_alternatives
decreases-objects_of_alternatives l = 3 * alternatives_size (alternatives_of l.alternatives.now) + 2

abbrev pub decreases-objects_of_handlers : goal.decreases-objects_of_handlers
decreases-objects_of_handlers l = 3 * handlers_size (handlers_of l.handlers.now) + 2

-- what was counted, and what is left
abbrev pub invariant-objects_of_statements-loop-statement : goal.invariant-objects_of_statements-loop-statement
invariant-objects_of_statements-loop-statement l =
    (capped l.count ≡ l.count)
    × (capped (l.count + length (all_objects (statements_of (drop l.statement-index l.statements)))) ≡ capped (length (all_objects (statements_of l.statements))))

abbrev pub invariant-objects_of_branches-loop-branch : goal.invariant-objects_of_branches-loop-branch
invariant-objects_of_branches-loop-branch l =
    (capped l.count ≡ l.count)
    × (capped (l.count + length (branch_objects (branches_of (drop l.branch-index l.branches) (statements_of l.otherwise))))
    ≡ capped (length (branch_objects (branches_of l.branches (statements_of l.otherwise)))))

abbrev pub invariant-objects_of_alternatives-loop-alternative : goal.invariant-objects_of_alternatives-loop-alternative
invariant-objects_of_alternatives-loop-alternative l =
    (capped l.count ≡ l.count)
    × (capped (l.count + length (alternative_objects (alternatives_of (drop l.alternative-index l.alternatives))))
    ≡ capped (length (alternative_objects (alternatives_of l.alternatives))))

abbrev pub invariant-objects_of_handlers-loop-handler : goal.invariant-objects_of_handlers-loop-handler
invariant-objects_of_handlers-loop-handler l =
    (capped l.count ≡ l.count)
    × (capped (l.count + length (handler_objects (handlers_of (drop l.handler-index l.handlers))))
    ≡ capped (length (handler_objects (handlers_of l.handlers))))
