use Rattle.std.proofs.Common.{max, refl, ap, ◌∙◌, arith}
use Rattle.ada_tree.proofs.Within.{statement_within, branch_within, other_within, alternative_within, handler_within}
use Rattle.ada_tree.specs.Objects.{capped}
use Rattle.ada_tree.specs.Sizes.{stmt_size, stmts_size}
use Rattle.ada_tree.specs.View.{alternatives_of, branches_of, handlers_of, statements_of}
use Rattle.frame_widths.specs.Ends.{end_of_alternatives, end_of_branches, end_of_handlers, end_of_statement, end_of_statements, end_of_test}
use Rattle.frame_widths.proofs.Behind.{statements_behind}
use Rattle.frame_widths.proofs.Counted.{all_counted, none_counted, one_counted}
use Rattle.frame_widths.proofs.block.+block.Goals as goal

pub width_of_alternatives-loop-alternative-init : goal.width_of_alternatives-loop-alternative-init
width_of_alternatives-loop-alternative-init t c =
    none_counted (λ xs. end_of_alternatives 0 (alternatives_of xs)) (λ x. end_of_statements 0 (statements_of x.statements.items)) (λ x xs. refl) c.args.alternatives.now 1 refl

pub width_of_alternatives-width_of_statements-requires : goal.width_of_alternatives-width_of_statements-requires
width_of_alternatives-width_of_statements-requires t c = (
  omega (
    arith,
    c.decreases,
    alternative_within c.args.alternatives.now c.loop-alternative.alternative-index c.alternative-item.result (omega arith),
    ap (λ x. stmts_size (statements_of x.statements.items)) c.alternative-item.is,
    ap (λ xs. stmts_size (statements_of xs)) c.deref.ensures.value,
  ),
  tt,
)

pub width_of_alternatives-loop-alternative-preserved : goal.width_of_alternatives-loop-alternative-preserved
width_of_alternatives-loop-alternative-preserved t c =
    let x = c.alternative-item.result in
    let count = c.loop-alternative.count in
    one_counted (λ xs. end_of_alternatives 0 (alternatives_of xs)) (λ x. end_of_statements 0 (statements_of x.statements.items)) (λ x xs. refl)
    c.args.alternatives.now c.loop-alternative.alternative-index x x count c.max-count.result c.loop-alternative-test.true c.alternative-item.is
    (c.max-count.ensures ∙ ap (max count) (c.width_of_statements.ensures ∙ ap (λ ss. capped (end_of_statements 0 (statements_of ss))) c.deref.ensures.value))
    c.loop-alternative.invariant

pub width_of_alternatives-returns : goal.width_of_alternatives-returns
width_of_alternatives-returns t c =
    all_counted (λ xs. end_of_alternatives 0 (alternatives_of xs)) c.args.alternatives.now c.loop-alternative.alternative-index c.loop-alternative.count
    (omega (arith, c.loop-alternative-test.false)) c.loop-alternative.invariant

pub width_of_branches-width_of_statements-count-requires : goal.width_of_branches-width_of_statements-count-requires
width_of_branches-width_of_statements-count-requires t c =
    (omega (arith, c.decreases, other_within c.args.branches.now (statements_of c.args.otherwise.now)), tt)

pub width_of_branches-loop-branch-init : goal.width_of_branches-loop-branch-init
width_of_branches-loop-branch-init t c =
    none_counted (λ bs. end_of_branches 0 (branches_of bs (statements_of c.args.otherwise.now)))
    (λ b. max (end_of_test 0 b.decision.test) (end_of_statements 0 (statements_of b.statements.items))) (λ b bs. refl) c.args.branches.now
    c.width_of_statements-count.result c.width_of_statements-count.ensures

pub width_of_branches-width_of_statements-requires : goal.width_of_branches-width_of_statements-requires
width_of_branches-width_of_statements-requires t c = (
  omega (
    arith,
    c.decreases,
    branch_within c.args.branches.now (statements_of c.args.otherwise.now) c.loop-branch.branch-index c.branch-item.result (omega arith),
    ap (λ x. stmts_size (statements_of x.statements.items)) c.branch-item.is,
    ap (λ xs. stmts_size (statements_of xs)) c.deref.ensures.value,
  ),
  tt,
)

pub width_of_branches-loop-branch-preserved : goal.width_of_branches-loop-branch-preserved
width_of_branches-loop-branch-preserved t c =
    let x = c.branch-item.result in
    one_counted (λ bs. end_of_branches 0 (branches_of bs (statements_of c.args.otherwise.now)))
    (λ b. max (end_of_test 0 b.decision.test) (end_of_statements 0 (statements_of b.statements.items))) (λ b bs. refl)
    c.args.branches.now c.loop-branch.branch-index x x c.loop-branch.count c.max-count.result c.loop-branch-test.true c.branch-item.is
    (omega (
      arith,
      c.width_of_test.ensures,
      c.width_of_statements.ensures,
      c.max.ensures,
      c.max-count.ensures,
      ap (λ ss. end_of_statements 0 (statements_of ss)) c.deref.ensures.value,
    ))
    c.loop-branch.invariant

pub width_of_branches-returns : goal.width_of_branches-returns
width_of_branches-returns t c =
    all_counted (λ bs. end_of_branches 0 (branches_of bs (statements_of c.args.otherwise.now))) c.args.branches.now c.loop-branch.branch-index c.loop-branch.count
    (omega (arith, c.loop-branch-test.false)) c.loop-branch.invariant

pub width_of_handlers-width_of_statements-requires : goal.width_of_handlers-width_of_statements-requires
width_of_handlers-width_of_statements-requires t c = (
  omega (
    arith,
    c.decreases,
    handler_within c.args.handlers.now c.loop-handler.handler-index c.handler-item.result (omega arith),
    ap (λ x. stmts_size (statements_of x.statements.items)) c.handler-item.is,
    ap (λ xs. stmts_size (statements_of xs)) c.deref.ensures.value,
  ),
  tt,
)

pub width_of_handlers-loop-handler-preserved : goal.width_of_handlers-loop-handler-preserved
width_of_handlers-loop-handler-preserved t c =
    let x = c.handler-item.result in
    one_counted (λ hs. end_of_handlers 0 (handlers_of hs)) (λ h. max 3 (end_of_statements 1 (statements_of h.statements.items))) (λ h hs. omega arith)
    c.args.handlers.now c.loop-handler.handler-index x x c.loop-handler.count c.max-count.result c.loop-handler-test.true c.handler-item.is
    (omega (
      arith,
      statements_behind 1 1 0 (statements_of x.statements.items) (omega arith),
      c.width_of_statements.ensures,
      c.saturating_add.ensures,
      c.max.ensures,
      c.max-count.ensures,
      ap (λ ss. end_of_statements 0 (statements_of ss)) c.deref.ensures.value,
    ))
    c.loop-handler.invariant

pub width_of_handlers-returns : goal.width_of_handlers-returns
width_of_handlers-returns t c =
    all_counted (λ hs. end_of_handlers 0 (handlers_of hs)) c.args.handlers.now c.loop-handler.handler-index c.loop-handler.count
    (omega (arith, c.loop-handler-test.false)) c.loop-handler.invariant

pub width_of_statement-returns-in-For : goal.width_of_statement-returns-in-For
width_of_statement-returns-in-For t c =
    let ss = statements_of c.in-For.statements.items in
    rw (← c.statement.view_is, c.in-For.is)
    (omega (
      arith,
      statements_behind 2 2 0 ss (omega arith),
      c.width_of_range.ensures,
      c.width_of_statements-in-For.ensures,
      c.saturating_add.ensures,
      c.max-in-For.ensures,
      ap (λ xs. end_of_statements 0 (statements_of xs)) c.deref-in-For.ensures.value,
    ))

pub width_of_statements-loop-statement-init : goal.width_of_statements-loop-statement-init
width_of_statements-loop-statement-init t c =
    none_counted (λ ss. end_of_statements 0 (statements_of ss)) (end_of_statement 0) (λ s ss. refl) c.args.statements.now 1 refl

pub width_of_statements-width_of_statement-requires : goal.width_of_statements-width_of_statement-requires
width_of_statements-width_of_statement-requires t c =
    (omega (arith, c.decreases, statement_within c.args.statements.now c.loop-statement.statement-index c.statement-item.result (omega arith), ap stmt_size c.statement-item.is), tt)

pub width_of_statements-loop-statement-preserved : goal.width_of_statements-loop-statement-preserved
width_of_statements-loop-statement-preserved t c =
    let x = c.statement-item.result in
    let count = c.loop-statement.count in
    one_counted (λ ss. end_of_statements 0 (statements_of ss)) (end_of_statement 0) (λ s ss. refl)
    c.args.statements.now c.loop-statement.statement-index x x count c.max-count.result c.loop-statement-test.true c.statement-item.is
    (c.max-count.ensures ∙ ap (max count) c.width_of_statement.ensures) c.loop-statement.invariant

pub width_of_statements-returns : goal.width_of_statements-returns
width_of_statements-returns t c =
    all_counted (λ ss. end_of_statements 0 (statements_of ss)) c.args.statements.now c.loop-statement.statement-index c.loop-statement.count
    (omega (arith, c.loop-statement-test.false)) c.loop-statement.invariant
