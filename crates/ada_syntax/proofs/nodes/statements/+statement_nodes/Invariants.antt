use Rattle.std.proofs.Common.{◌≡◌, ◌+◌, ◌*◌, drop}
use Rattle.ada_syntax.specs.Nodes as count
use Rattle.ada_syntax.specs.Nodes.{capped}
use Rattle.ada_syntax.specs.StatementTree.{statement_size, statements_size, branches_size, alternatives_size, handlers_size, handled_size}
use Rattle.ada_syntax.specs.StatementView.{statements_of, branches_of, alternatives_of, handlers_of}
use Rattle.ada_syntax.proofs.nodes.statements.+statement_nodes.Given as goal

abbrev pub decreases-nodes_of_statement : goal.decreases-nodes_of_statement
decreases-nodes_of_statement l = 5 * statement_size l.statement.now

abbrev pub decreases-nodes_of_statements : goal.decreases-nodes_of_statements
decreases-nodes_of_statements l = 5 * statements_size (statements_of l.statements.now) + 1

abbrev pub decreases-nodes_of_else : goal.decreases-nodes_of_else
decreases-nodes_of_else l = 5 * statements_size (statements_of l.statements.now) + 2

abbrev pub decreases-nodes_of_branch : goal.decreases-nodes_of_branch
decreases-nodes_of_branch l = 5 * statements_size (statements_of l.branch.now.statements.items) + 2

abbrev pub decreases-nodes_of_branches : goal.decreases-nodes_of_branches
decreases-nodes_of_branches l = 5 * branches_size (branches_of l.branches.now) + 3

abbrev pub decreases-nodes_of_alternative : goal.decreases-nodes_of_alternative
decreases-nodes_of_alternative l = 5 * statements_size (statements_of l.alternative.now.statements.items) + 2

abbrev pub decreases-nodes_of_alternatives : goal.decreases-nodes_of_alternatives
decreases-nodes_of_alternatives l = 5 * alternatives_size (alternatives_of l.alternatives.now) + 3

abbrev pub decreases-nodes_of_handler : goal.decreases-nodes_of_handler
decreases-nodes_of_handler l = 5 * statements_size (statements_of l.handler.now.statements.items) + 2

abbrev pub decreases-nodes_of_handlers : goal.decreases-nodes_of_handlers
decreases-nodes_of_handlers l = 5 * handlers_size (handlers_of l.handlers.now) + 3

abbrev pub decreases-nodes_of_exception_part : goal.decreases-nodes_of_exception_part
decreases-nodes_of_exception_part l = 5 * handlers_size (handlers_of l.handlers.now) + 4

abbrev pub decreases-nodes_of_handled : goal.decreases-nodes_of_handled
decreases-nodes_of_handled l = 5 * handled_size l.handled.now

abbrev pub invariant-nodes_of_statements-loop-statement : goal.invariant-nodes_of_statements-loop-statement
invariant-nodes_of_statements-loop-statement l = (capped l.nodes ≡ l.nodes) × (capped (l.nodes + count.statements_nodes (statements_of (drop l.statement-index l.statements))) ≡ capped (count.statements_nodes (statements_of l.statements)))

abbrev pub invariant-nodes_of_branches-loop-branch : goal.invariant-nodes_of_branches-loop-branch
invariant-nodes_of_branches-loop-branch l = (capped l.nodes ≡ l.nodes) × (capped (l.nodes + count.branches_nodes (branches_of (drop l.branch-index l.branches))) ≡ capped (count.branches_nodes (branches_of l.branches)))

abbrev pub invariant-nodes_of_alternatives-loop-alternative : goal.invariant-nodes_of_alternatives-loop-alternative
invariant-nodes_of_alternatives-loop-alternative l = (capped l.nodes ≡ l.nodes) × (capped (l.nodes + count.alternatives_nodes (alternatives_of (drop l.alternative-index l.alternatives))) ≡ capped (count.alternatives_nodes (alternatives_of l.alternatives)))

abbrev pub invariant-nodes_of_handlers-loop-handler : goal.invariant-nodes_of_handlers-loop-handler
invariant-nodes_of_handlers-loop-handler l = (capped l.nodes ≡ l.nodes) × (capped (l.nodes + count.handlers_nodes (handlers_of (drop l.handler-index l.handlers))) ≡ capped (count.handlers_nodes (handlers_of l.handlers)))
