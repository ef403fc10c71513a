use Rattle.std.proofs.Common.{ap, arith}
use Rattle.std.proofs.lemmas.Grind.{common_steps}
use Rattle.ada_tree.specs.Sizes.{stmt_size, stmts_size}
use Rattle.ada_tree.specs.View.{statements_of}
use Rattle.ada_tree.proofs.Within.{statement_within, branch_within, other_within, alternative_within, handler_within}
use Rattle.ada_tree.proofs.results.+results.Goals as goal

pub result_in_statements-result_in_statement-requires : goal.result_in_statements-result_in_statement-requires
result_in_statements-result_in_statement-requires t c =
    (omega (arith, c.decreases, statement_within c.args.statements.now c.loop-statement.statement-index c.statement-item.result (omega arith), ap (λ x. stmt_size x) c.statement-item.is), tt)

pub result_in_branches-result_in_statements-requires : goal.result_in_branches-result_in_statements-requires
result_in_branches-result_in_statements-requires t c = (
  omega (
    arith,
    c.decreases,
    branch_within c.args.branches.now (statements_of c.args.otherwise.now) c.loop-branch.branch-index c.branch-item.result (omega arith),
    ap (λ x. stmts_size (statements_of x.statements.items)) c.branch-item.is,
    ap (λ xs. stmts_size (statements_of xs)) c.deref.ensures.value,
  ),
  tt,
)

pub result_in_branches-result_in_statements-requires-2 : goal.result_in_branches-result_in_statements-requires-2
result_in_branches-result_in_statements-requires-2 t c =
    (omega (arith, c.decreases, other_within c.args.branches.now (statements_of c.args.otherwise.now)), tt)

pub result_in_alternatives-result_in_statements-requires : goal.result_in_alternatives-result_in_statements-requires
result_in_alternatives-result_in_statements-requires t c = (
  omega (
    arith,
    c.decreases,
    alternative_within c.args.alternatives.now c.loop-alternative.alternative-index c.alternative-item.result (omega arith),
    ap (λ x. stmts_size (statements_of x.statements.items)) c.alternative-item.is,
    ap (λ xs. stmts_size (statements_of xs)) c.deref.ensures.value,
  ),
  tt,
)

pub result_in_handlers-result_in_statements-requires : goal.result_in_handlers-result_in_statements-requires
result_in_handlers-result_in_statements-requires t c = (
  omega (
    arith,
    c.decreases,
    handler_within c.args.handlers.now c.loop-handler.handler-index c.handler-item.result (omega arith),
    ap (λ x. stmts_size (statements_of x.statements.items)) c.handler-item.is,
    ap (λ xs. stmts_size (statements_of xs)) c.deref.ensures.value,
  ),
  tt,
)

pub result_in_alternatives-returns-then-result_in_statements : goal.result_in_alternatives-returns-then-result_in_statements
result_in_alternatives-returns-then-result_in_statements t c = grind (arith, common_steps)

pub result_in_alternatives-loop-alternative-preserved : goal.result_in_alternatives-loop-alternative-preserved
result_in_alternatives-loop-alternative-preserved t c = grind (arith, common_steps)

pub result_in_alternatives-returns : goal.result_in_alternatives-returns
result_in_alternatives-returns t c = grind (arith, common_steps)

pub result_in_handlers-returns-then-result_in_statements : goal.result_in_handlers-returns-then-result_in_statements
result_in_handlers-returns-then-result_in_statements t c = grind (arith, common_steps)

pub result_in_handlers-loop-handler-preserved : goal.result_in_handlers-loop-handler-preserved
result_in_handlers-loop-handler-preserved t c = grind (arith, common_steps)

pub result_in_handlers-returns : goal.result_in_handlers-returns
result_in_handlers-returns t c = grind (arith, common_steps)

pub result_in_branches-returns-then-result_in_statements : goal.result_in_branches-returns-then-result_in_statements
result_in_branches-returns-then-result_in_statements t c = grind (arith, common_steps)

pub result_in_branches-loop-branch-preserved : goal.result_in_branches-loop-branch-preserved
result_in_branches-loop-branch-preserved t c = grind (arith, common_steps)

pub result_in_branches-returns : goal.result_in_branches-returns
result_in_branches-returns t c = grind (arith, common_steps)

pub result_in_statements-loop-statement-preserved : goal.result_in_statements-loop-statement-preserved
result_in_statements-loop-statement-preserved t c = grind (arith, common_steps)

pub result_in_statements-returns-then-result_in_statement : goal.result_in_statements-returns-then-result_in_statement
result_in_statements-returns-then-result_in_statement t c = grind (arith, common_steps)
