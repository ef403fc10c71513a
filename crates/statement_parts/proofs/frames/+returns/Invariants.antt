use Rattle.std.proofs.Common.{◌≡◌, ◌+◌, ◌*◌, drop}
use Rattle.ada_syntax.specs.StatementTree.{statement_size, statements_size, branches_size, alternatives_size, handlers_size, handled_size}
use Rattle.ada_syntax.specs.StatementView.{statements_of, branches_of, alternatives_of, handlers_of}
use Rattle.ada_rules.specs.Statements as rules
use Rattle.statement_parts.proofs.frames.+returns.Given as goal

abbrev pub decreases-has_return : goal.decreases-has_return
decreases-has_return l = 3 * statement_size l.statement.now

abbrev pub decreases-any_return : goal.decreases-any_return
decreases-any_return l = 3 * statements_size (statements_of l.statements.now) + 1

abbrev pub decreases-branches_return : goal.decreases-branches_return
decreases-branches_return l = 3 * branches_size (branches_of l.branches.now) + 2

abbrev pub decreases-alternatives_return : goal.decreases-alternatives_return
decreases-alternatives_return l = 3 * alternatives_size (alternatives_of l.alternatives.now) + 2

abbrev pub decreases-handlers_return : goal.decreases-handlers_return
decreases-handlers_return l = 3 * handlers_size (handlers_of l.handlers.now) + 2

abbrev pub decreases-frame_returns : goal.decreases-frame_returns
decreases-frame_returns l = 3 * handled_size l.handled.now

-- what is left has a `return` where all has one
abbrev pub invariant-any_return-loop-statement : goal.invariant-any_return-loop-statement
invariant-any_return-loop-statement l =
    rules.any_return (statements_of (drop l.statement-index l.statements)) ≡ rules.any_return (statements_of l.statements)

abbrev pub invariant-branches_return-loop-branch : goal.invariant-branches_return-loop-branch
invariant-branches_return-loop-branch l =
    rules.branches_return (branches_of (drop l.branch-index l.branches)) ≡ rules.branches_return (branches_of l.branches)

abbrev pub invariant-alternatives_return-loop-alternative : goal.invariant-alternatives_return-loop-alternative
invariant-alternatives_return-loop-alternative l =
    rules.arms_return (alternatives_of (drop l.alternative-index l.alternatives)) ≡ rules.arms_return (alternatives_of l.alternatives)

abbrev pub invariant-handlers_return-loop-handler : goal.invariant-handlers_return-loop-handler
invariant-handlers_return-loop-handler l =
    rules.handlers_return (handlers_of (drop l.handler-index l.handlers)) ≡ rules.handlers_return (handlers_of l.handlers)
