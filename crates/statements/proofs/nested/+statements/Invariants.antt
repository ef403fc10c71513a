use Rattle.std.proofs.Common.{◌+◌, ◌*◌, ◌∷◌, drop, map}
use Rattle.ada_syntax.specs.StatementTree.{statement_size, statements_size, branches_size, alternatives_size, handlers_size, handled_size}
use Rattle.ada_syntax.specs.StatementView.{statements_of, branches_of, alternatives_of, handlers_of}
use Rattle.statement_parts.specs.Cases.{arm_in}
use Rattle.statements.specs.Nested.{all_in_tree, branch_in}
use Rattle.statements.proofs.Rows.{Reaches}
use Rattle.statements.proofs.RowsOf.{statements_by, branches_by, arms_by}
use Rattle.statements.proofs.HandlerRows.{HandlersReach}
use Rattle.statements.proofs.nested.+statements.Given as goal

abbrev pub decreases-stated : goal.decreases-stated
decreases-stated l = 5 * statement_size l.statement.now

abbrev pub decreases-all_stated : goal.decreases-all_stated
decreases-all_stated l = 5 * statements_size (statements_of l.statements.now) + 1

abbrev pub decreases-branch : goal.decreases-branch
decreases-branch l = 5 * statements_size (statements_of l.source.now.statements.items) + 2

abbrev pub decreases-all_branches : goal.decreases-all_branches
decreases-all_branches l =
    5 * (statements_size (statements_of l.first.now.statements.items) + branches_size (branches_of l.others.now)) + 3

abbrev pub decreases-if_at : goal.decreases-if_at
decreases-if_at l =
    5 * (statements_size (statements_of l.first.now.statements.items) + branches_size (branches_of l.others.now)
    + statements_size (statements_of l.otherwise.now)) + 4

abbrev pub decreases-arm : goal.decreases-arm
decreases-arm l = 5 * statements_size (statements_of l.source.now.statements.items) + 2

abbrev pub decreases-all_arms : goal.decreases-all_arms
decreases-all_arms l = 5 * alternatives_size (alternatives_of l.alternatives.now) + 3

abbrev pub decreases-case_at : goal.decreases-case_at
decreases-case_at l = 5 * alternatives_size (alternatives_of l.alternatives.now) + 4

abbrev pub decreases-forever_at : goal.decreases-forever_at
decreases-forever_at l = 5 * statements_size (statements_of l.statements.now) + 2

abbrev pub decreases-while_at : goal.decreases-while_at
decreases-while_at l = 5 * statements_size (statements_of l.statements.now) + 2

abbrev pub decreases-for_at : goal.decreases-for_at
decreases-for_at l = 5 * statements_size (statements_of l.statements.now) + 2

abbrev pub decreases-loop_at : goal.decreases-loop_at
decreases-loop_at l = 5 * statements_size (statements_of l.statements.now) + 3

abbrev pub decreases-block_at : goal.decreases-block_at
decreases-block_at l = 5 * handled_size l.handled.now + 1

abbrev pub decreases-handler : goal.decreases-handler
decreases-handler l = 5 * statements_size (statements_of l.source.now.statements.items) + 2

abbrev pub decreases-all_handlers : goal.decreases-all_handlers
decreases-all_handlers l = 5 * handlers_size (handlers_of l.handlers.now) + 3

abbrev pub decreases-all_handled : goal.decreases-all_handled
decreases-all_handled l = 5 * handled_size l.handled.now

-- what is left of a row comes to what all of it comes to
abbrev pub invariant-all_stated-loop-statement : goal.invariant-all_stated-loop-statement
invariant-all_stated-loop-statement l =
    Reaches statements_by l.fn.context l.fn.walk l.walk l.statements (drop l.statement-index l.statements) (λ k. all_in_tree k l.made.items)

abbrev pub invariant-all_branches-loop-other : goal.invariant-all_branches-loop-other
invariant-all_branches-loop-other l =
    Reaches (branches_by l.fn.pos) l.fn.context l.fn.walk l.walk (l.fn.first ∷ l.others) (drop l.other-index l.others)
    (λ k. map (branch_in k) l.branches.items)

abbrev pub invariant-all_arms-loop-alternative : goal.invariant-all_arms-loop-alternative
invariant-all_arms-loop-alternative l =
    Reaches (arms_by l.selector) l.fn.context l.fn.walk l.walk l.alternatives (drop l.alternative-index l.alternatives)
    (λ k. map (arm_in k) l.arms.items)

abbrev pub invariant-all_handlers-loop-place : goal.invariant-all_handlers-loop-place
invariant-all_handlers-loop-place l =
    HandlersReach l.fn.context l.fn.walk l.walk l.handlers (drop l.place l.handlers) l.made.items
