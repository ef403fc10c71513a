use Rattle.std.proofs.Common.{◌≡◌, ◌+◌, ◌≤◌, List, [], ◌∷◌, length, ap, arith}
use Rattle.std.proofs.lemmas.List.{at_drop_all}
use Rattle.std.proofs.lemmas.Grind.{common_steps}
use Rattle.ada_syntax.specs.Nodes as count
use Rattle.ada_syntax.specs.StatementTree.{Statement, statement_size, statements_size}
use Rattle.ada_syntax.specs.declared.statement.Handler.{Handler}
use Rattle.ada_syntax.specs.StatementView.{statements_of, branches_of, alternatives_of, handlers_of}
use Rattle.ada_syntax.proofs.StatementSizeLaws.{statement_within, branch_within, alternative_within, handler_within}
use Rattle.ada_syntax.proofs.nodes.statements.+statement_nodes.Goals as goal

pub nodes_of_statements-nodes_of_statement-requires : goal.nodes_of_statements-nodes_of_statement-requires
nodes_of_statements-nodes_of_statement-requires t c =
    (omega (arith, c.decreases, statement_within c.args.statements.now c.loop-statement.statement-index c.statement-item.result (omega arith), ap (λ x. statement_size x) c.statement-item.is), tt)

pub nodes_of_statements-returns : goal.nodes_of_statements-returns
nodes_of_statements-returns t c =
    omega (arith, at_drop_all (λ xs. count.statements_nodes (statements_of xs)) c.args.statements.now c.loop-statement.statement-index (omega arith))

pub nodes_of_branches-nodes_of_branch-requires : goal.nodes_of_branches-nodes_of_branch-requires
nodes_of_branches-nodes_of_branch-requires t c =
    (omega (arith, c.decreases, branch_within c.args.branches.now c.loop-branch.branch-index c.branch-item.result (omega arith), ap (λ x. statements_size (statements_of x.statements.items)) c.branch-item.is), tt)

pub nodes_of_branches-returns : goal.nodes_of_branches-returns
nodes_of_branches-returns t c =
    omega (arith, at_drop_all (λ xs. count.branches_nodes (branches_of xs)) c.args.branches.now c.loop-branch.branch-index (omega arith))

pub nodes_of_alternatives-nodes_of_alternative-requires : goal.nodes_of_alternatives-nodes_of_alternative-requires
nodes_of_alternatives-nodes_of_alternative-requires t c =
    (omega (arith, c.decreases, alternative_within c.args.alternatives.now c.loop-alternative.alternative-index c.alternative-item.result (omega arith), ap (λ x. statements_size (statements_of x.statements.items)) c.alternative-item.is), tt)

pub nodes_of_alternatives-returns : goal.nodes_of_alternatives-returns
nodes_of_alternatives-returns t c =
    omega (arith, at_drop_all (λ xs. count.alternatives_nodes (alternatives_of xs)) c.args.alternatives.now c.loop-alternative.alternative-index (omega arith))

pub nodes_of_handlers-nodes_of_handler-requires : goal.nodes_of_handlers-nodes_of_handler-requires
nodes_of_handlers-nodes_of_handler-requires t c =
    (omega (arith, c.decreases, handler_within c.args.handlers.now c.loop-handler.handler-index c.handler-item.result (omega arith), ap (λ x. statements_size (statements_of x.statements.items)) c.handler-item.is), tt)

pub nodes_of_handlers-returns : goal.nodes_of_handlers-returns
nodes_of_handlers-returns t c =
    omega (arith, at_drop_all (λ xs. count.handlers_nodes (handlers_of xs)) c.args.handlers.now c.loop-handler.handler-index (omega arith))

else_part : (ss : List Statement) → 1 ≤ length ss → count.else_nodes (statements_of ss) ≡ 1 + count.statements_nodes (statements_of ss)
else_part [] h = absurd (omega arith)
else_part (s ∷ ss) h = omega arith

exception_part : (hs : List Handler) → 1 ≤ length hs → count.exception_part_nodes (handlers_of hs) ≡ 1 + count.handlers_nodes (handlers_of hs)
exception_part [] h = absurd (omega arith)
exception_part (h ∷ hs) l = omega arith

pub nodes_of_else-returns-in_default : goal.nodes_of_else-returns-in_default
nodes_of_else-returns-in_default t c = omega (arith, else_part c.args.statements.now (omega arith))

pub nodes_of_exception_part-returns-in_default : goal.nodes_of_exception_part-returns-in_default
nodes_of_exception_part-returns-in_default t c = omega (arith, exception_part c.args.handlers.now (omega arith))

pub nodes_of_statements-loop-statement-preserved : goal.nodes_of_statements-loop-statement-preserved
nodes_of_statements-loop-statement-preserved t c = grind (arith, common_steps)

pub nodes_of_branches-loop-branch-preserved : goal.nodes_of_branches-loop-branch-preserved
nodes_of_branches-loop-branch-preserved t c = grind (arith, common_steps)

pub nodes_of_handlers-loop-handler-preserved : goal.nodes_of_handlers-loop-handler-preserved
nodes_of_handlers-loop-handler-preserved t c = grind (arith, common_steps)

pub nodes_of_alternatives-loop-alternative-preserved : goal.nodes_of_alternatives-loop-alternative-preserved
nodes_of_alternatives-loop-alternative-preserved t c = grind (arith, common_steps)
