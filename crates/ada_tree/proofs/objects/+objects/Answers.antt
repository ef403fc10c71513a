use Rattle.std.proofs.Common.{ap, arith}
use Rattle.std.proofs.lemmas.Grind.{common_steps}
use Rattle.ada_tree.specs.Sizes.{stmt_size, stmts_size}
use Rattle.ada_tree.specs.View.{statements_of}
use Rattle.ada_tree.proofs.Within.{statement_within, branch_within, other_within, alternative_within, handler_within}
use Rattle.ada_tree.proofs.objects.+objects.Goals as goal

pub objects_of_statements-objects_of_statement-requires : goal.objects_of_statements-objects_of_statement-requires
objects_of_statements-objects_of_statement-requires t c =
    (omega (arith, c.decreases, statement_within c.args.statements.now c.loop-statement.statement-index c.statement-item.result (omega arith), ap (λ x. stmt_size x) c.statement-item.is), tt)

pub objects_of_branches-objects_of_statements-requires : goal.objects_of_branches-objects_of_statements-requires
objects_of_branches-objects_of_statements-requires t c = (
  omega (
    arith,
    c.decreases,
    branch_within c.args.branches.now (statements_of c.args.otherwise.now) c.loop-branch.branch-index c.branch-item.result (omega arith),
    ap (λ x. stmts_size (statements_of x.statements.items)) c.branch-item.is,
    ap (λ xs. stmts_size (statements_of xs)) c.deref.ensures.value,
  ),
  tt,
)

pub objects_of_branches-objects_of_statements-requires-2 : goal.objects_of_branches-objects_of_statements-requires-2
objects_of_branches-objects_of_statements-requires-2 t c =
    (omega (arith, c.decreases, other_within c.args.branches.now (statements_of c.args.otherwise.now)), tt)

pub objects_of_alternatives-objects_of_statements-requires : goal.objects_of_alternatives-objects_of_statements-requires
objects_of_alternatives-objects_of_statements-requires t c = (
  omega (
    arith,
    c.decreases,
    alternative_within c.args.alternatives.now c.loop-alternative.alternative-index c.alternative-item.result (omega arith),
    ap (λ x. stmts_size (statements_of x.statements.items)) c.alternative-item.is,
    ap (λ xs. stmts_size (statements_of xs)) c.deref.ensures.value,
  ),
  tt,
)

pub objects_of_handlers-objects_of_statements-requires : goal.objects_of_handlers-objects_of_statements-requires
objects_of_handlers-objects_of_statements-requires t c = (
  omega (
    arith,
    c.decreases,
    handler_within c.args.handlers.now c.loop-handler.handler-index c.handler-item.result (omega arith),
    ap (λ x. stmts_size (statements_of x.statements.items)) c.handler-item.is,
    ap (λ xs. stmts_size (statements_of xs)) c.deref.ensures.value,
  ),
  tt,
)

pub objects_of_block-returns : goal.objects_of_block-returns
objects_of_block-returns t c = grind (arith, common_steps)

pub objects_of_branches-returns : goal.objects_of_branches-returns
objects_of_branches-returns t c = grind (arith, common_steps)

pub objects_of_branches-loop-branch-preserved : goal.objects_of_branches-loop-branch-preserved
objects_of_branches-loop-branch-preserved t c = grind (arith, common_steps)

pub objects_of_alternatives-loop-alternative-preserved : goal.objects_of_alternatives-loop-alternative-preserved
objects_of_alternatives-loop-alternative-preserved t c = grind (arith, common_steps)

pub objects_of_alternatives-returns : goal.objects_of_alternatives-returns
objects_of_alternatives-returns t c = grind (arith, common_steps)

pub objects_of_handlers-loop-handler-preserved : goal.objects_of_handlers-loop-handler-preserved
objects_of_handlers-loop-handler-preserved t c = grind (arith, common_steps)

pub objects_of_handlers-returns : goal.objects_of_handlers-returns
objects_of_handlers-returns t c = grind (arith, common_steps)

pub objects_of_statements-loop-statement-preserved : goal.objects_of_statements-loop-statement-preserved
objects_of_statements-loop-statement-preserved t c = grind (arith, common_steps)
