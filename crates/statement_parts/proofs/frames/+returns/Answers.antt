use Rattle.std.proofs.Common.{ap, arith}
use Rattle.ada_syntax.specs.StatementTree.{statement_size, statements_size}
use Rattle.ada_syntax.specs.StatementView.{statements_of}
use Rattle.ada_syntax.proofs.StatementSizeLaws.{statement_within, branch_within, alternative_within, handler_within}
use Rattle.statement_parts.proofs.frames.+returns.Goals as goal

pub any_return-has_return-requires : goal.any_return-has_return-requires
any_return-has_return-requires t c = (
  omega (
    arith,
    c.decreases,
    statement_within c.args.statements.now c.loop-statement.statement-index c.statement-item.result (omega arith),
    ap statement_size c.statement-item.is,
  ),
  tt,
)

pub branches_return-any_return-requires : goal.branches_return-any_return-requires
branches_return-any_return-requires t c = (
  omega (
    arith,
    c.decreases,
    branch_within c.args.branches.now c.loop-branch.branch-index c.branch-item.result (omega arith),
    ap (λ x. statements_size (statements_of x.statements.items)) c.branch-item.is,
    ap (λ xs. statements_size (statements_of xs)) c.as_slice.ensures.value,
  ),
  tt,
)

pub alternatives_return-any_return-requires : goal.alternatives_return-any_return-requires
alternatives_return-any_return-requires t c = (
  omega (
    arith,
    c.decreases,
    alternative_within c.args.alternatives.now c.loop-alternative.alternative-index c.alternative-item.result (omega arith),
    ap (λ x. statements_size (statements_of x.statements.items)) c.alternative-item.is,
    ap (λ xs. statements_size (statements_of xs)) c.as_slice.ensures.value,
  ),
  tt,
)

pub handlers_return-any_return-requires : goal.handlers_return-any_return-requires
handlers_return-any_return-requires t c = (
  omega (
    arith,
    c.decreases,
    handler_within c.args.handlers.now c.loop-handler.handler-index c.handler-item.result (omega arith),
    ap (λ x. statements_size (statements_of x.statements.items)) c.handler-item.is,
    ap (λ xs. statements_size (statements_of xs)) c.as_slice.ensures.value,
  ),
  tt,
)
